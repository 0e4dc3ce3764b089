use Rattle.std.proofs.Common.{◌∙◌, refl}
use Rattle.mes_double_live.proofs.OpenLemmas.{all-at, makes-none, pushed-makes, sends-all, sends-next}
use Rattle.mes_double_live.specs.Steps.{IsNoOffers}
use Rattle.mes_double_live.specs.Steps.Step.{sends}
use Rattle.mes_double_live.proofs.live.Live.send_all.Goals as goal

pub loop-event-init : goal.loop-event-init
loop-event-init c = record { same = refl; sends = makes-none _ _ refl }

pub loop-event-preserved : goal.loop-event-preserved
loop-event-preserved c = record {
  same = c.push.ensures.same ∙ c.loop-event.invariant.same;
  sends =
      sends-next c.args.sent.now c.loop-event.event-index _ _ _ _ c.loop-event-test.true c.event-item.is c.loop-event.invariant.sends
      (pushed-makes _ _ _ (all-at IsNoOffers c.args.sent.now c.loop-event.event-index _ c.loop-event-test.true c.event-item.is c.requires) c.in_ok-push.ensures.pushed);
}

pub returns-clause-sends : goal.returns-clause-sends
returns-clause-sends c = sends-all (λ now event. sends now event) c.args.sent.now c.loop-event.event-index _ _ c.loop-event-test.false c.loop-event.invariant.sends
