use Rattle.std.proofs.Common.{ap, arith}
use Rattle.mes_session_fit.specs.Keys.{key_of}
use Rattle.mes_session_fit.specs.Fits.{amount_of, amount}
use Rattle.mes_session_fit.proofs.PourLemmas.{parts-more}
use Rattle.mes_session_fit.proofs.supply.Supply.take_tasks.Goals as goal

pub returns-then-not-take_resources-clause-short : goal.returns-then-not-take_resources-clause-short
returns-then-not-take_resources-clause-short g c = λ _.
    omega (
      arith,
      c.take_resources.ensures.short c.if-not-take_resources.true,
      c.loop-task.invariant,
      ap (amount (key_of c.args.key.now)) c.as_slice.ensures,
      parts-more (amount_of (key_of c.args.key.now)) (λ t. t.resources) c.args.tasks.now c.loop-task.task-index c.task-item.result c.loop-task-test.true c.task-item.is,
    )
