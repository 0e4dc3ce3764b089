use Rattle.std.proofs.Common.{◌≡◌, drop, slice_get}
use Rattle.mes_double_master_state.specs.Updates.{waiting}
use Rattle.mes_double_master_state.proofs.updates.pending_at.Given as goal

-- `before` unacknowledged updates from position `at` on precede the update that is searched for
abbrev pub invariant-loop-at : goal.invariant-loop-at
invariant-loop-at l = slice_get (waiting (drop l.at l.owing.entries) l.acked) l.before ≡ slice_get (waiting l.owing.entries l.acked) l.fn.index
