use Rattle.std.proofs.Common.{take}
use Rattle.mes_session_log.proofs.EncodeLemmas.{LogSoFar}
use Rattle.mes_session_log.proofs.encode.encode_log.Given as goal

-- `log` is the log of the entries so far
abbrev pub invariant-loop-index : goal.invariant-loop-index
invariant-loop-index l = LogSoFar l.limit (take l.index l.entries) l.log.items
