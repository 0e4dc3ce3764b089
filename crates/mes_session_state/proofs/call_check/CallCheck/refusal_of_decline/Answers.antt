use Rattle.std.proofs.Common.{◌∙◌, sym, true≢false}
use Rattle.mes_session_state.specs.Calls.{decline_call}
use Rattle.mes_session_state.proofs.RefusalLemmas.{foreign, lift}
use Rattle.mes_session_state.proofs.call_check.CallCheck.refusal_of_decline.Goals as goal

pub returns-then-is_disconnected-clause-answers : goal.returns-then-is_disconnected-clause-answers
returns-then-is_disconnected-clause-answers c framework filters own =
    foreign c.args.self.now (decline_call framework c.args.ids.now filters) ((c.is_disconnected.ensures.strange framework own).0 c.if-is_disconnected.true)

pub returns-clause-answers : goal.returns-clause-answers
returns-clause-answers c framework filters own =
    lift c.args.self.now (decline_call framework c.args.ids.now filters) (λ s. true≢false (sym ((c.is_disconnected.ensures.strange framework own).1 s) ∙ c.if-is_disconnected.false)) c.fault_of_decline.result c.fault_of_decline.ensures
