use Rattle.mes_session.proofs.SessionLemmas.{idle_at, message-next, failure-next, error-next, heartbeat-next, other-next}
use Rattle.mes_session.proofs.session.Session.apply_event.Goals as goal

pub returns-in-Message-clause-next : goal.returns-in-Message-clause-next
returns-in-Message-clause-next c = idle_at c.args.self.now c.args.event.now _ c.in-Message.is (message-next c.args.self.now c.in-Message.field-0)

pub returns-in-Failure-clause-next : goal.returns-in-Failure-clause-next
returns-in-Failure-clause-next c = idle_at c.args.self.now c.args.event.now _ c.in-Failure.is (failure-next c.args.self.now c.in-Failure.field-0)

pub returns-in-Error-clause-next : goal.returns-in-Error-clause-next
returns-in-Error-clause-next c = idle_at c.args.self.now c.args.event.now _ c.in-Error.is (error-next c.args.self.now c.in-Error.field-0)

pub returns-in-Heartbeat-clause-next : goal.returns-in-Heartbeat-clause-next
returns-in-Heartbeat-clause-next c = idle_at c.args.self.now c.args.event.now _ c.in-Heartbeat.is (heartbeat-next c.args.self.now)

pub returns-in-Other-clause-next : goal.returns-in-Other-clause-next
returns-in-Other-clause-next c = idle_at c.args.self.now c.args.event.now _ c.in-Other.is (other-next c.args.self.now c.in-Other.field-0)
