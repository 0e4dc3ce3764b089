use Rattle.mes_session.proofs.SessionLemmas.{subscribed-next}
use Rattle.mes_session.proofs.session.Session.subscribed.Goals as goal

pub returns-clause-next : goal.returns-clause-next
returns-clause-next c = subscribed-next _ _ c.self.view_is c.args.body.now c.in_ok-framework.framework c.clear.new.self c.in_ok-framework.ensures c.clear.ensures
