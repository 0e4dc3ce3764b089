use Rattle.mes_msg.specs.declared.entry.Entry.TheVariants.{Broken}
use Rattle.mes_session.proofs.SessionLemmas.{broken-next, next-represents}
use Rattle.mes_session.proofs.session.Session.broken.Goals as goal

pub returns-clause-next : goal.returns-clause-next
returns-clause-next c = broken-next _ _ c.self.view_is c.clear.new.self c.clear.ensures

pub returns-clause-represents : goal.returns-clause-represents
returns-clause-represents c = next-represents c.args.self.now _ Broken (returns-clause-next c)
