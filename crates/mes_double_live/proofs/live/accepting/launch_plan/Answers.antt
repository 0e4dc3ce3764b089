use Rattle.std.proofs.Common.{◌∙◌, sym}
use Rattle.mes_double_live.proofs.LaunchLemmas.{plan-of}
use Rattle.mes_double_live.proofs.live.accepting.launch_plan.Goals as goal

pub returns : goal.returns
returns c =
    plan-of c.args.master.now c.args.body.now _ _ _ _ _ c.as_slice-ids.ensures c.as_slice-operations.ensures c.outstanding-outstanding.ensures c.in_ok-offers.ensures
    (sym c.all_there.ensures ∙ c.if-not-all_there.false) c.in_ok-plan_for.ensures.fits c.in_ok-plan_for.ensures.whole
