use Rattle.std.specs.Prelude.{take}
use Rattle.mes_session_fit.specs.Launched.{launched, launched_by}
use Rattle.mes_double_live.specs.Launching.{AddsAll}
use Rattle.mes_double_live.proofs.live.accepting.plan_all.Given as goal

-- the tasks of the first operations were added
abbrev pub invariant-loop-operation : goal.invariant-loop-operation
invariant-loop-operation l =
    AddsAll l.master.launched (launched launched_by (take l.operation-index l.operations)) l.offers l.fn.plan.kept.items l.plan.kept.items
