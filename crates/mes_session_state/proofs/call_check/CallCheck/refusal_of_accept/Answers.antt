use Rattle.std.proofs.Common.{◌∙◌, ap, sym, true≢false, None}
use Rattle.mes_session_state.specs.Calls.{accept_call}
use Rattle.mes_session_state.proofs.RefusalLemmas.{foreign, reported, one-group}
use Rattle.mes_session_state.proofs.call_check.CallCheck.refusal_of_accept.Goals as goal

pub returns-then-is_disconnected-clause-answers : goal.returns-then-is_disconnected-clause-answers
returns-then-is_disconnected-clause-answers c framework filters own =
    foreign c.args.self.now (accept_call framework c.args.ids.now c.args.tasks.now filters) ((c.is_disconnected.ensures.strange framework own).0 c.if-is_disconnected.true)

pub returns-clause-answers : goal.returns-clause-answers
returns-clause-answers c framework filters own =
    reported c.args.self.now (accept_call framework c.args.ids.now c.args.tasks.now filters) (λ s. true≢false (sym ((c.is_disconnected.ensures.strange framework own).1 s) ∙ c.if-is_disconnected.false)) c.fault_of_accept.result
    _ (ap (λ ts. record { named = c.args.ids.now; accepted = c.args.ids.now; tasks = ts; acknowledged = None }) (one-group c.args.tasks.now)) c.fault_of_accept.ensures
