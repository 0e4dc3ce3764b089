use Rattle.std.proofs.Common.{◌∙◌, ap, arith}
use Rattle.mes_session_fit.specs.Launched.{place, as_index}
use Rattle.mes_session_fit.proofs.BreachLemmas.{counted}
use Rattle.mes_session_state.specs.Refusals.{is_elsewhere}
use Rattle.mes_session_state.proofs.LookLemmas.{first-in}
use Rattle.mes_session_state.proofs.named_offers.on_other_agent.Goals as goal

pub returns-in-Some-clause-some : goal.returns-in-Some-clause-some
returns-in-Some-clause-some g c =
    let of = g.L.TaskGroup.tasks in
    let os = c.args.launches.now in
    let at = c.loop-at.at in (
      place of os at c.in-Some.task,
      c.saturating_add.ensures ∙ counted _ (place of os at 0) c.in-Some.task c.loop-at.invariant.counted ∙ ap as_index (omega arith),
      first-in (is_elsewhere c.args.offers.now) of os at c.index-launches-at.result c.loop-at-test.true c.index-launches-at.is c.tasks-tasks.result.now c.tasks-tasks.ensures c.loop-at.invariant.none c.in-Some.task c.in-Some.ensures.some,
    )
