use Rattle.std.proofs.Common.{◌∙◌, ap, sym, true≢false, Some}
use Rattle.mes_session_state.specs.Held.{is_owed}
use Rattle.mes_session_state.specs.Calls.{acknowledge_call}
use Rattle.mes_session_state.specs.declared.refusal.Refusal.TheVariants.{NotOwed}
use Rattle.mes_session_state.proofs.RefusalLemmas.{foreign, lift, unowed-one}
use Rattle.mes_session_state.proofs.call_check.CallCheck.refusal_of_acknowledge.Goals as goal

pub returns-then-is_disconnected-clause-answers : goal.returns-then-is_disconnected-clause-answers
returns-then-is_disconnected-clause-answers c framework own =
    foreign c.args.self.now (acknowledge_call framework c.args.key.now) ((c.is_disconnected.ensures.strange framework own).0 c.if-is_disconnected.true)

pub returns-else-contains-clause-answers : goal.returns-else-contains-clause-answers
returns-else-contains-clause-answers c framework own =
    lift c.args.self.now (acknowledge_call framework c.args.key.now) (λ s. true≢false (sym ((c.is_disconnected.ensures.strange framework own).1 s) ∙ c.if-is_disconnected.false)) (Some NotOwed)
    (unowed-one c.args.self.now c.args.key.now (ap (λ s. is_owed c.args.key.now s.owed) (sym c.self.view_is) ∙ sym c.contains.ensures ∙ c.if-contains.false))
