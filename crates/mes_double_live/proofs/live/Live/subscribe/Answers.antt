use Rattle.mes_double_master.specs.Masters.{MasterState, handled}
use Rattle.std.proofs.Common.{◌≡◌, ◌∙◌, ◌==◌, ℕ, List, ap, false, option_copied, refl, subst, sym, rules}
use Rattle.mes_msg.specs.Event.{Event}
use Rattle.mes_double_live.proofs.CallLemmas.{carried-alone, carried-begins, delivering-of-subscribe, opens-one, status-is, subscribe-follows, subscribe-refused}
use Rattle.mes_double_live.proofs.MoveLemmas.{moves-then}
use Rattle.mes_double_live.proofs.OpenLemmas.{Subscribes, begins-wider, opens-by, subscribes}
use Rattle.mes_double_live.proofs.StepLemmas.{same, steps-same}
use Rattle.mes_double_live.proofs.live.Live.subscribe.Goals as goal

pub returns-in_err-ended-clause-moves : goal.returns-in_err-ended-clause-moves
returns-in_err-ended-clause-moves c = moves-then _ _ _ c.handle.ensures.moves c.open_stream.ensures.moves

pub returns-clause-moves : goal.returns-clause-moves
returns-clause-moves c = moves-then _ _ _ c.handle.ensures.moves c.open_stream.ensures.moves

pub returns-clause-steps : goal.returns-clause-steps
returns-clause-steps c =
    let ok : c.in_ok-answer.answer.status ≡ 200 = search rules in
    let by = subst (λ (events : List Event). Subscribes c.args.self.now.master events c.handle.new.self.master) (sym c.as_slice.ensures.value)
    (subscribes _ _ _ _ _ _ c.requires.subscribe ok c.in_ok-answer.ensures.answered) in
    let begins = begins-wider (delivering-of-subscribe _ c.requires.subscribe) _ _ _ c.in_ok-ended.ensures.begins in
    carried-begins c.args.call.now (option_copied c.args.stream) _ c.args.self.now c.handle.new.self _ c.in_ok-answer.ensures.handles c.handle.ensures.rest
    (subscribe-follows c.args.self.now c.args.call.now (handled c.args.self.now.master c.args.call.now (option_copied c.args.stream)) c.requires.subscribe (status-is _ _ 200 c.in_ok-answer.ensures.status ok refl))
    (opens-by c.args.self.now c.handle.new.self _ _ _ c.handle.ensures.rest c.current-old.ensures by begins)

pub returns-clause-opened : goal.returns-clause-opened
returns-clause-opened c =
    let ok : c.in_ok-answer.answer.status ≡ 200 = search rules in
    c.current-opened.ensures ∙ ap (λ (m : MasterState). m.stream) c.in_ok-answer.ensures.answered.master_is ∙ opens-one _ (handled c.args.self.now.master c.args.call.now (option_copied c.args.stream)).master ok

pub returns-then-ne-clause-steps : goal.returns-then-ne-clause-steps
returns-then-ne-clause-steps c =
    let no : (c.in_ok-answer.answer.status == 200) ≡ false = search rules in
    carried-alone c.args.call.now (option_copied c.args.stream) c.args.self.now c.handle.new.self _ c.in_ok-answer.ensures.handles c.handle.ensures.rest
    (subscribe-refused c.args.self.now c.args.call.now (handled c.args.self.now.master c.args.call.now (option_copied c.args.stream)) c.requires.subscribe (ap (λ (s : ℕ). s == 200) (sym c.in_ok-answer.ensures.status) ∙ no)) (steps-same _ _ (same _ _ refl))
