use Rattle.std.proofs.Common.{◌≡◌, take}
use Rattle.mes_session_fit.specs.Launched.{launched, launched_by}
use Rattle.mes_session_state.specs.Refusals.{ids_of}
use Rattle.mes_double_master_state.proofs.ids.task_ids.Given as goal

abbrev pub invariant-loop-operation : goal.invariant-loop-operation
invariant-loop-operation l = l.ids.items ≡ ids_of (launched launched_by (take l.operation-index l.operations))
