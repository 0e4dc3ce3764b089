use Rattle.mes_session.proofs.SessionLemmas.{applied}
use Rattle.mes_session.proofs.session.Session.said.Goals as goal

pub returns-clause-ok : goal.returns-clause-ok
returns-clause-ok c = applied c.args.self.now c.apply.new.self c.args.call.now c.in_ok-check.ensures.ok c.apply.ensures
