use Rattle.std.proofs.Common.{ap, ◌∙◌}
use Rattle.std.specs.List.{list_any}
use Rattle.mes_session_fit.specs.Keys.{key_of}
use Rattle.mes_session_fit.specs.Fits.{piece_of, asked}
use Rattle.mes_session_fit.proofs.LaunchedLemmas.{by-group}
use Rattle.mes_session_fit.proofs.LookLemmas.{any-in}
use Rattle.mes_session_fit.proofs.shared_pieces.groups_meet.Goals as goal

pub returns-then-tasks_meet : goal.returns-then-tasks_meet
returns-then-tasks_meet g c =
    let met = c.if-tasks_meet.ensures in
    let of = piece_of (key_of c.args.resource.now) met.0 in (
      met.0,
      met.1,
      ap (list_any of) (by-group g.L.TaskGroup.tasks c.args.launches.now)
          ∙ any-in of (λ o. asked (g.L.TaskGroup.tasks o)) c.args.launches.now c.loop-group.group-index c.group-item.result c.loop-group-test.true c.group-item.is
          _ (ap asked c.tasks.ensures) met.2,
    )
