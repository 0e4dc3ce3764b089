use Rattle.std.proofs.Common.{ap, arith, take}
use Rattle.mes_session_fit.specs.Keys.{key_of}
use Rattle.mes_session_fit.specs.Fits.{amount_of, amount, asked}
use Rattle.mes_session_fit.proofs.LaunchedLemmas.{by-group}
use Rattle.mes_session_fit.proofs.PourLemmas.{parts-more}
use Rattle.mes_session_fit.proofs.supply.Supply.take_groups.Goals as goal

pub returns-then-not-take_tasks-clause-short : goal.returns-then-not-take_tasks-clause-short
returns-then-not-take_tasks-clause-short g c = λ _.
    let k = key_of c.args.key.now in
    omega (
      arith,
      c.take_tasks.ensures.short c.if-not-take_tasks.true,
      c.loop-group.invariant,
      ap (λ ts. amount k (asked ts)) c.tasks.ensures,
      ap (amount k) (by-group g.L.TaskGroup.tasks c.args.launches.now),
      ap (amount k) (by-group g.L.TaskGroup.tasks (take c.loop-group.group-index c.args.launches.now)),
      parts-more (amount_of k) (λ o. asked (g.L.TaskGroup.tasks o)) c.args.launches.now c.loop-group.group-index c.group-item.result c.loop-group-test.true c.group-item.is,
    )
