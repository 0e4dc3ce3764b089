use Rattle.mes_double_live.proofs.LaunchLemmas.{launched-adds, refused-adds}
use Rattle.mes_double_live.proofs.live.accepting.plan_task.Goals as goal

pub returns-in_ok-push-in-Some : goal.returns-in_ok-push-in-Some
returns-in_ok-push-in-Some c =
    refused-adds _ _ c.args.master.now.launched c.args.task.now c.args.offers.now _ c.args.plan.now.kept.items c.in-Some.is c.as_slice.ensures.value c.in_ok-message.ensures.refused

pub returns-in_ok-push-in-None : goal.returns-in_ok-push-in-None
returns-in_ok-push-in-None c =
    launched-adds _ c.args.master.now.launched c.args.task.now _ c.args.offers.now _ c.args.plan.now.kept.items _ c.in-None.is c.as_slice.ensures.value c.in_ok-message.ensures.new
    c.in_ok-copy-in-None.ensures c.in_ok-push-in-None.ensures.items
