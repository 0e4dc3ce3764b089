use Rattle.std.proofs.Common.{take}
use Rattle.mes_session.proofs.ReplayLemmas.{EntriesSoFar}
use Rattle.mes_session.proofs.replaying.replay.Given as goal

-- the calls of the entries so far are allowed, and the session has the state after these entries
abbrev pub invariant-loop-index : goal.invariant-loop-index
invariant-loop-index l = EntriesSoFar (take l.index l.entries) l.session
