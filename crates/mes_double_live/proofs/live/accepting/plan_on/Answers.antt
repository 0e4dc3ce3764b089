use Rattle.std.proofs.Common.{◌∙◌, ap, not, subst, sym}
use Rattle.mes_session_fit.specs.Launched.{launched, launched_by}
use Rattle.mes_double_live.specs.Launching.{AddsAll}
use Rattle.mes_double_live.proofs.LaunchLemmas.{all-not-fit, on-anyway}
use Rattle.mes_double_live.proofs.live.accepting.plan_on.Goals as goal

pub returns-clause-whole : goal.returns-clause-whole
returns-clause-whole c =
    let adds = subst (AddsAll c.args.master.now.launched (launched launched_by c.args.operations.now) c.args.offers.now c.args.plan.now.kept.items) (sym c.as_slice.ensures.value)
    c.in_ok-plan_all.ensures in
    on-anyway _ _
    (all-not-fit (λ r. r.now) c.args.master.now.launched (launched launched_by c.args.operations.now) c.args.offers.now c.args.plan.now.kept.items c.as_slice.result.now
    c.fit_each.new.plan.kept.items c.unfitting_resource.result c.requires adds (c.is_none.ensures ∙ ap not c.if-is_none.false) c.unfitting_resource.ensures.some)
