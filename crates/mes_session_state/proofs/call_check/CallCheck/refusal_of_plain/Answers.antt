use Rattle.mes_session_state.proofs.RefusalLemmas.{foreign, strange-plain}
use Rattle.mes_session_state.proofs.call_check.CallCheck.refusal_of_plain.Goals as goal

pub returns-then-is_disconnected-clause-answers : goal.returns-then-is_disconnected-clause-answers
returns-then-is_disconnected-clause-answers c framework call own is plain =
    foreign c.args.self.now call (strange-plain c.args.self.now call framework is plain ((c.is_disconnected.ensures.strange framework own).0 c.if-is_disconnected.true))
