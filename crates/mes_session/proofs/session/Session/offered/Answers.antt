use Rattle.mes_session.proofs.SessionLemmas.{offered-ok}
use Rattle.mes_session.proofs.session.Session.offered.Goals as goal

pub returns-clause-next : goal.returns-clause-next
returns-clause-next c = offered-ok _ _ c.self.view_is c.add.result c.args.offers.now c.as_slice.result.now c.add.new.self c.as_slice.ensures c.add.ensures.ok
