use Rattle.std.proofs.Common.{◌≡◌, ◌==◌, ◌∙◌, ap, false, ℕ, option_copied, refl, rules, subst, sym}
use Rattle.std.specs.List.{AllByRecursion}
use Rattle.mes_double_master.specs.Masters.{handled}
use Rattle.mes_double_live.specs.Steps.{IsNoOffers}
use Rattle.mes_double_live.proofs.CallLemmas.{carried-alone, carried-done, handled-no-offers, other-refused, status-is}
use Rattle.mes_double_live.proofs.StepLemmas.{same, steps-same}
use Rattle.mes_double_live.proofs.live.Live.carry_out.Goals as goal

pub returns-clause-steps : goal.returns-clause-steps
returns-clause-steps c =
    let ok : c.in_ok-answer.answer.status ≡ 202 = search rules in
    carried-done c.args.call.now (option_copied c.args.stream) _ c.args.self.now c.handle.new.self _ c.in_ok-answer.ensures.handles c.handle.ensures.rest c.requires.other (status-is _ _ 202 c.in_ok-answer.ensures.status ok refl)
    (c.as_slice.ensures.value ∙ c.in_ok-answer.ensures.answered.events_are) c.in_ok-ended.ensures.steps

pub returns-then-ne-clause-steps : goal.returns-then-ne-clause-steps
returns-then-ne-clause-steps c =
    let no : (c.in_ok-answer.answer.status == 202) ≡ false = search rules in
    carried-alone c.args.call.now (option_copied c.args.stream) c.args.self.now c.handle.new.self _ c.in_ok-answer.ensures.handles c.handle.ensures.rest
    (other-refused c.args.self.now c.args.call.now (handled c.args.self.now.master c.args.call.now (option_copied c.args.stream)) c.requires.other (ap (λ (s : ℕ). s == 202) (sym c.in_ok-answer.ensures.status) ∙ no)) (steps-same _ _ (same _ _ refl))

pub conclude-requires : goal.conclude-requires
conclude-requires c =
    subst (AllByRecursion IsNoOffers) (sym c.as_slice.ensures.value)
    (subst (AllByRecursion IsNoOffers) (sym c.in_ok-answer.ensures.answered.events_are) (handled-no-offers c.args.self.now.master c.args.call.now (option_copied c.args.stream)))
