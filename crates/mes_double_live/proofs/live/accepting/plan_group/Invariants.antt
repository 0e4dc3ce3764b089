use Rattle.std.specs.Prelude.{take}
use Rattle.mes_double_live.specs.Launching.{AddsAll}
use Rattle.mes_double_live.proofs.live.accepting.plan_group.Given as goal

-- the first tasks were added
abbrev pub invariant-loop-task : goal.invariant-loop-task
invariant-loop-task l = AddsAll l.master.launched (take l.task-index l.tasks) l.offers l.fn.plan.kept.items l.plan.kept.items
