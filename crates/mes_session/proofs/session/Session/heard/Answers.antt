use Rattle.mes_msg.specs.declared.entry.Entry.TheVariants.{Heard}
use Rattle.mes_session.proofs.SessionLemmas.{next-represents}
use Rattle.mes_session.proofs.session.Session.heard.Goals as goal

pub returns-clause-represents : goal.returns-clause-represents
returns-clause-represents c = next-represents c.args.self.now c.apply_event.new.self (Heard c.args.event.now) c.in_ok-apply_event.ensures.next
