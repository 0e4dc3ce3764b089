use Rattle.std.proofs.Common.{sym, ◌∙◌, ap}
use Rattle.std.specs.List.{list_any}
use Rattle.mes_session_fit.specs.Keys.{key_of, is_of}
use Rattle.mes_session_fit.specs.Fits.{asked}
use Rattle.mes_session_fit.proofs.LaunchedLemmas.{by-group}
use Rattle.mes_session_fit.proofs.LookLemmas.{any-in}
use Rattle.mes_session_fit.proofs.other_tasks.groups_have_key.Goals as goal

pub returns-then-tasks_have_key : goal.returns-then-tasks_have_key
returns-then-tasks_have_key g c =
    let of = is_of (key_of c.args.key.now) in
    sym (ap (list_any of) (by-group g.L.TaskGroup.tasks c.args.launches.now)
    ∙ any-in of (λ o. asked (g.L.TaskGroup.tasks o)) c.args.launches.now c.loop-group.group-index c.group-item.result c.loop-group-test.true c.group-item.is
    _ (ap asked c.tasks.ensures) (sym c.tasks_have_key.ensures ∙ c.if-tasks_have_key.true))
