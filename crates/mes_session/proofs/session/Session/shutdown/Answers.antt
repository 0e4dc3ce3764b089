use Rattle.std.proofs.Common.{refl}
use Rattle.mes_model.specs.Id.{Id}
use Rattle.mes_session_calls.specs.Made.{shutdown_call}
use Rattle.mes_session.proofs.SessionLemmas.{turned_down, made_ok, made_err}
use Rattle.mes_session.proofs.session.Session.shutdown.Goals as goal

pub returns-in-Some-clause-err : goal.returns-in-Some-clause-err
returns-in-Some-clause-err c =
    turned_down (λ (framework : Id). shutdown_call framework c.args.executor.now c.args.agent.now) c.standing.result c.args.self.now c.standing.ensures c.refusal_of_plain.result
    (λ f own. c.refusal_of_plain.ensures.answers f (shutdown_call f c.args.executor.now c.args.agent.now) own refl tt) c.in-Some.refusal c.in-Some.is

pub returns-clause-ok : goal.returns-clause-ok
returns-clause-ok c =
    made_ok (λ (framework : Id). shutdown_call framework c.args.executor.now c.args.agent.now) c.standing.result c.args.self.now c.standing.ensures c.refusal_of_plain.result
    (λ f own. c.refusal_of_plain.ensures.answers f (shutdown_call f c.args.executor.now c.args.agent.now) own refl tt)
    c.say.new.self c.own.result.now c.make_shutdown-call.result c.say.result c.in_default.is c.own.ensures c.make_shutdown-call.ensures c.say.ensures.ok

pub returns-clause-err : goal.returns-clause-err
returns-clause-err c =
    made_err (λ (framework : Id). shutdown_call framework c.args.executor.now c.args.agent.now) c.standing.result c.args.self.now c.standing.ensures c.refusal_of_plain.result
    (λ f own. c.refusal_of_plain.ensures.answers f (shutdown_call f c.args.executor.now c.args.agent.now) own refl tt) c.say.new.self c.say.result c.in_default.is c.say.ensures.err
