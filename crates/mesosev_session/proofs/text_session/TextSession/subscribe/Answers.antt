use Rattle.std.proofs.Common.{◌∙◌, ap}
use Rattle.mes_session_state.specs.Held.{Held}
use Rattle.mesosev_session.specs.declared.text_session.TextSession.{TextSession}
use Rattle.mesosev_session.proofs.SubscribeLemmas.{on_err, subscribe_keeps}
use Rattle.mesosev_session.proofs.text_session.TextSession.subscribe.Goals as goal

pub returns-in_err-text-clause-same : goal.returns-in_err-text-clause-same
returns-in_err-text-clause-same c =
    let after_call : Held → TextSession = λ s. record { alloc = c.args.self.now.alloc; session = s; entries = c.args.self.now.entries } in
    let before = c.args.self.now.session in
    on_err c.from_residual.result (ap after_call (c.in-Ok-subscribe.ensures.ok.next ∙ rw c.in-Ok-subscribe.ensures.call (subscribe_keeps before before.framework c.in-Ok.info)))
