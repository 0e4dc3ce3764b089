use Rattle.std.proofs.Common.{take, map}
use Rattle.mes_stream.specs.Sending.{IsPlainOf}
use Rattle.mes_stream.proofs.encode.encode_each.Given as goal

-- the records of the messages encoded so far
abbrev pub invariant-loop-index : goal.invariant-loop-index
invariant-loop-index g l = IsPlainOf g.M.Part.kind l.limit (take l.index (map (λ message. message.now) l.messages)) l.body.items
