use Rattle.std.proofs.Common.{◌∙◌, ap, sym, true≢false}
use Rattle.mes_session_state.specs.Held.{is_owed}
use Rattle.mes_session_state.proofs.RefusalLemmas.{foreign, told-accept, told-decline, told-acknowledge}
use Rattle.mes_session_state.proofs.call_check.CallCheck.refusal.Goals as goal

pub returns-then-is_foreign : goal.returns-then-is_foreign
returns-then-is_foreign c = foreign c.args.self.now c.args.call.now (c.is_foreign.ensures.0 c.if-is_foreign.true)

pub returns-in-Accept : goal.returns-in-Accept
returns-in-Accept c =
    told-accept c.args.self.now c.args.call.now (λ f. true≢false (sym (c.is_foreign.ensures.1 f) ∙ c.if-is_foreign.false)) c.fault_of_accept.result c.in-Accept.is
    c.as_slice.result.now c.as_slice-in-Accept.result.now c.as_slice.ensures c.as_slice-in-Accept.ensures c.fault_of_accept.ensures

pub returns-in-Decline : goal.returns-in-Decline
returns-in-Decline c =
    told-decline c.args.self.now c.args.call.now (λ f. true≢false (sym (c.is_foreign.ensures.1 f) ∙ c.if-is_foreign.false)) c.fault_of_decline.result c.in-Decline.is
    c.as_slice-in-Decline.result.now c.as_slice-in-Decline.ensures c.fault_of_decline.ensures

pub returns-else-owed : goal.returns-else-owed
returns-else-owed c =
    told-acknowledge c.args.self.now c.args.call.now (λ f. true≢false (sym (c.is_foreign.ensures.1 f) ∙ c.if-is_foreign.false)) c.in-Acknowledge.is
    (ap (λ s. is_owed (record { agent = c.in-Acknowledge.body.agent_id; task = c.in-Acknowledge.body.task_id; uuid = c.in-Acknowledge.body.uuid }) s.owed) (sym c.self.view_is) ∙ sym c.has-owed.ensures ∙ c.if-owed.false)
