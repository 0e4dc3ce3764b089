use Rattle.std.proofs.Common.{◌≡◌, take, map}
use Rattle.mes_stream.proofs.encode.message_refs.Given as goal

abbrev pub invariant-loop-message : goal.invariant-loop-message
invariant-loop-message g l = map (λ message. message.now) l.refs.items ≡ take l.message-index l.messages
