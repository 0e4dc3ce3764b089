use Rattle.std.proofs.Common.{option_copied}
use Rattle.mes_model.specs.Id.{Id}
use Rattle.mes_session_state.specs.Calls.{decline_call}
use Rattle.mes_session.proofs.SessionLemmas.{turned_down, made_ok, made_err}
use Rattle.mes_session.proofs.session.Session.decline.Goals as goal

pub returns-in-Some-clause-err : goal.returns-in-Some-clause-err
returns-in-Some-clause-err c =
    turned_down (λ (framework : Id). decline_call framework c.args.ids.now (option_copied c.args.filters)) c.standing.result c.args.self.now c.standing.ensures c.refusal_of_decline.result
    (λ f own. c.refusal_of_decline.ensures.answers f (option_copied c.args.filters) own) c.in-Some.refusal c.in-Some.is

pub returns-clause-ok : goal.returns-clause-ok
returns-clause-ok c =
    made_ok (λ (framework : Id). decline_call framework c.args.ids.now (option_copied c.args.filters)) c.standing.result c.args.self.now c.standing.ensures c.refusal_of_decline.result
    (λ f own. c.refusal_of_decline.ensures.answers f (option_copied c.args.filters) own)
    c.say.new.self c.own.result.now c.make_decline-call.result c.say.result c.in_default.is c.own.ensures c.make_decline-call.ensures c.say.ensures.ok

pub returns-clause-err : goal.returns-clause-err
returns-clause-err c =
    made_err (λ (framework : Id). decline_call framework c.args.ids.now (option_copied c.args.filters)) c.standing.result c.args.self.now c.standing.ensures c.refusal_of_decline.result
    (λ f own. c.refusal_of_decline.ensures.answers f (option_copied c.args.filters) own) c.say.new.self c.say.result c.in_default.is c.say.ensures.err
