use Rattle.std.proofs.Common.{option_copied, ◌∙◌, ap}
use Rattle.mes_session_state.specs.Held.{Held}
use Rattle.mes_session.proofs.SessionLemmas.{subscribed_ok}
use Rattle.mes_session.proofs.session.Session.subscribe.Goals as goal

pub returns-clause-ok : goal.returns-clause-ok
returns-clause-ok c =
    subscribed_ok c.args.self.now c.say.new.self (option_copied c.as_ref.result) c.args.info.now c.make_subscribe-call.result c.say.result
    (c.as_ref.ensures.value ∙ ap (λ (s : Held). s.framework) c.self.view_is) c.make_subscribe-call.ensures c.say.ensures.ok
