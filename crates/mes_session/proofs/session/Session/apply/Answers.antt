use Rattle.mes_session.proofs.SessionLemmas.{accepted-next, declined-next, acknowledged-next, idle-next}
use Rattle.mes_session.proofs.session.Session.apply.Goals as goal

pub returns-in-Accept : goal.returns-in-Accept
returns-in-Accept c =
    accepted-next _ _ c.self.view_is c.args.call.now c.in-Accept.framework_id c.in-Accept.body c.as_slice.result.now c.remove_all.new.self c.in-Accept.is c.as_slice.ensures c.remove_all.ensures

pub returns-in-Decline : goal.returns-in-Decline
returns-in-Decline c =
    declined-next _ _ c.self.view_is c.args.call.now c.in-Decline.framework_id c.in-Decline.body c.as_slice-in-Decline.result.now c.remove_all-in-Decline.new.self
    c.in-Decline.is c.as_slice-in-Decline.ensures c.remove_all-in-Decline.ensures

pub returns-in-Acknowledge : goal.returns-in-Acknowledge
returns-in-Acknowledge c =
    acknowledged-next _ _ c.self.view_is c.args.call.now c.in-Acknowledge.framework_id c.in-Acknowledge.body c.remove_key.new.self c.in-Acknowledge.is c.remove_key.ensures

pub returns-in_default : goal.returns-in_default
returns-in_default c = idle-next c.args.self.now c.args.call.now c.in_default.not-Accept c.in_default.not-Decline c.in_default.not-Acknowledge
