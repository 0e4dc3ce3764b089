use Rattle.std.proofs.Common.{◌∙◌, ap, subst}
use Rattle.std.specs.Prelude.{◌↔◌, IsTrue}
use Rattle.mes_model.specs.Owed.{Owes, owed_key_of}
use Rattle.mes_model.specs.TaskStatus.{TaskStatus}
use Rattle.mes_session.proofs.SessionLemmas.{updated-ok, unowed-next, unowing-next}
use Rattle.mes_session.proofs.session.Session.updated.Goals as goal

pub returns-then-not-owes-clause-next : goal.returns-then-not-owes-clause-next
returns-then-not-owes-clause-next c =
    unowing-next c.args.self.now c.args.body.now c.owes.result (subst (λ (s : TaskStatus). IsTrue c.owes.result ↔ Owes s) c.get-status.ensures c.owes.ensures) c.if-not-owes.true

pub returns-in-Some-clause-next : goal.returns-in-Some-clause-next
returns-in-Some-clause-next c =
    updated-ok _ _ c.self.view_is c.add.result c.args.body.now c.in_ok-key.field-0 c.in-Some.key c.add.new.self c.in-Some.is
    (c.in_ok-key.ensures ∙ ap owed_key_of c.get-status.ensures) c.add.ensures.ok

pub returns-in-None-clause-next : goal.returns-in-None-clause-next
returns-in-None-clause-next c = unowed-next c.args.self.now c.args.body.now c.in_ok-key.field-0 c.in-None.is (c.in_ok-key.ensures ∙ ap owed_key_of c.get-status.ensures)
