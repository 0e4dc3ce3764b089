use Rattle.mes_session_fit.specs.Keys.{key_of}
use Rattle.mes_session_fit.specs.Fits.{piece_of}
use Rattle.mes_session_fit.proofs.LookLemmas.{any-in}
use Rattle.mes_session_fit.proofs.shared_pieces.tasks_meet.Goals as goal

pub returns-then-resources_meet : goal.returns-then-resources_meet
returns-then-resources_meet c =
    let met = c.if-resources_meet.ensures in (
      met.0,
      met.1,
      any-in (piece_of (key_of c.args.resource.now) met.0) (λ t. t.resources) c.args.tasks.now c.loop-task.task-index c.task-item.result c.loop-task-test.true c.task-item.is
          _ c.as_slice.ensures met.2,
    )
