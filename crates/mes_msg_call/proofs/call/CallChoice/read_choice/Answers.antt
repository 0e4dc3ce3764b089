use Rattle.std.proofs.Common.{refl, arith}
use Rattle.std.specs.Prelude.{codes}
use Rattle.mes_model_schema.specs.Rows.{optional, required}
use Rattle.mes_model_resource.specs.Ids.{id}
use Rattle.mes_msg_record.specs.Messages.{message_body}
use Rattle.mes_msg_call_body.specs.CallBodies.{reconcile, shutdown, subscribe}
use Rattle.mes_msg_call.specs.Calls.{with_body, without_body}
use Rattle.mes_model_schema.proofs.ChoiceLemmas.{found_in, gives_fault}
use Rattle.mes_msg_call.proofs.call.CallChoice.read_choice.Goals as goal

pub returns-in_err-framework_id-in-SUBSCRIBE : goal.returns-in_err-framework_id-in-SUBSCRIBE
returns-in_err-framework_id-in-SUBSCRIBE c = λ ms each.
    gives_fault _ (optional (codes "framework_id") id c.args.path.now ms) _ c.from_residual-in_err-framework_id-in-SUBSCRIBE.result c.from_residual-in_err-framework_id-in-SUBSCRIBE.ensures.1
    (c.in_err-framework_id-in-SUBSCRIBE.ensures ms (found_in c.args.found.now _ 1 _ c.index-found-1.is (omega (arith, c.requires.all)) each.1.0))
    (λ f is. rw (c.in_ok-type_of.ensures ms (found_in c.args.found.now _ 0 _ c.index-found-0.is (omega (arith, c.requires.all)) each.0), c.in-SUBSCRIBE.is, is) refl)

pub returns-in_err-body-in-SUBSCRIBE : goal.returns-in_err-body-in-SUBSCRIBE
returns-in_err-body-in-SUBSCRIBE c = λ ms each.
    gives_fault _ (required (codes "subscribe") subscribe c.args.path.now ms) _ c.from_residual-in_err-body-in-SUBSCRIBE.result c.from_residual-in_err-body-in-SUBSCRIBE.ensures.1
    (c.in_err-body-in-SUBSCRIBE.ensures ms (found_in c.args.found.now _ 2 _ c.index-found-2.is (omega (arith, c.requires.all)) each.1.1.0))
    (λ f is. rw (c.in_ok-type_of.ensures ms (found_in c.args.found.now _ 0 _ c.index-found-0.is (omega (arith, c.requires.all)) each.0), c.in-SUBSCRIBE.is, c.in_ok-framework_id-in-SUBSCRIBE.ensures ms (found_in c.args.found.now _ 1 _ c.index-found-1.is (omega (arith, c.requires.all)) each.1.0), is) refl)

pub returns-in_ok-body-in-SUBSCRIBE : goal.returns-in_ok-body-in-SUBSCRIBE
returns-in_ok-body-in-SUBSCRIBE c = λ ms each.
    rw (
      c.in_ok-type_of.ensures ms (found_in c.args.found.now _ 0 _ c.index-found-0.is (omega (arith, c.requires.all)) each.0),
      c.in-SUBSCRIBE.is,
      c.in_ok-framework_id-in-SUBSCRIBE.ensures ms (found_in c.args.found.now _ 1 _ c.index-found-1.is (omega (arith, c.requires.all)) each.1.0),
      c.in_ok-body-in-SUBSCRIBE.ensures ms (found_in c.args.found.now _ 2 _ c.index-found-2.is (omega (arith, c.requires.all)) each.1.1.0),
    ) refl

pub returns-in_err-framework_id-in-REVIVE : goal.returns-in_err-framework_id-in-REVIVE
returns-in_err-framework_id-in-REVIVE c = λ ms each.
    gives_fault _ ((without_body (codes "revive")).read c.args.path.now ms) _ c.from_residual-in_err-framework_id-in-REVIVE.result c.from_residual-in_err-framework_id-in-REVIVE.ensures.1
    (c.in_err-framework_id-in-REVIVE.ensures.err ms (found_in c.args.found.now _ 1 _ c.index-found-1.is (omega (arith, c.requires.all)) each.1.0) (found_in c.args.found.now _ 5 _ c.index-found-5.is (omega (arith, c.requires.all)) each.1.1.1.1.1.0))
    (λ f is. rw (c.in_ok-type_of.ensures ms (found_in c.args.found.now _ 0 _ c.index-found-0.is (omega (arith, c.requires.all)) each.0), c.in-REVIVE.is, is) refl)

pub returns-in_ok-framework_id-in-REVIVE : goal.returns-in_ok-framework_id-in-REVIVE
returns-in_ok-framework_id-in-REVIVE c = λ ms each.
    rw (
      c.in_ok-type_of.ensures ms (found_in c.args.found.now _ 0 _ c.index-found-0.is (omega (arith, c.requires.all)) each.0),
      c.in-REVIVE.is,
      c.in_ok-framework_id-in-REVIVE.ensures.ok ms (found_in c.args.found.now _ 1 _ c.index-found-1.is (omega (arith, c.requires.all)) each.1.0) (found_in c.args.found.now _ 5 _ c.index-found-5.is (omega (arith, c.requires.all)) each.1.1.1.1.1.0),
    ) refl

pub returns-in_err-framework_id-in-RECONCILE : goal.returns-in_err-framework_id-in-RECONCILE
returns-in_err-framework_id-in-RECONCILE c = λ ms each.
    gives_fault _ ((with_body (codes "reconcile") reconcile).read c.args.path.now ms) _ c.from_residual-in_err-framework_id-in-RECONCILE.result c.from_residual-in_err-framework_id-in-RECONCILE.ensures.1
    (c.in_err-framework_id-in-RECONCILE.ensures ms (found_in c.args.found.now _ 1 _ c.index-found-1.is (omega (arith, c.requires.all)) each.1.0) (found_in c.args.found.now _ 8 _ c.index-found-8.is (omega (arith, c.requires.all)) each.1.1.1.1.1.1.1.1.0))
    (λ f is. rw (c.in_ok-type_of.ensures ms (found_in c.args.found.now _ 0 _ c.index-found-0.is (omega (arith, c.requires.all)) each.0), c.in-RECONCILE.is, is) refl)

pub returns-in_ok-framework_id-in-RECONCILE : goal.returns-in_ok-framework_id-in-RECONCILE
returns-in_ok-framework_id-in-RECONCILE c = λ ms each.
    rw (
      c.in_ok-type_of.ensures ms (found_in c.args.found.now _ 0 _ c.index-found-0.is (omega (arith, c.requires.all)) each.0),
      c.in-RECONCILE.is,
      c.in_ok-framework_id-in-RECONCILE.ensures ms (found_in c.args.found.now _ 1 _ c.index-found-1.is (omega (arith, c.requires.all)) each.1.0) (found_in c.args.found.now _ 8 _ c.index-found-8.is (omega (arith, c.requires.all)) each.1.1.1.1.1.1.1.1.0),
    ) refl

pub returns-in_err-framework_id-in-TEARDOWN : goal.returns-in_err-framework_id-in-TEARDOWN
returns-in_err-framework_id-in-TEARDOWN c = λ ms each.
    gives_fault _ (required (codes "framework_id") id c.args.path.now ms) _ c.from_residual-in_err-framework_id-in-TEARDOWN.result c.from_residual-in_err-framework_id-in-TEARDOWN.ensures.1
    (c.in_err-framework_id-in-TEARDOWN.ensures ms (found_in c.args.found.now _ 1 _ c.index-found-1.is (omega (arith, c.requires.all)) each.1.0))
    (λ f is. rw (c.in_ok-type_of.ensures ms (found_in c.args.found.now _ 0 _ c.index-found-0.is (omega (arith, c.requires.all)) each.0), c.in-TEARDOWN.is, is) refl)

pub returns-in_ok-framework_id-in-TEARDOWN : goal.returns-in_ok-framework_id-in-TEARDOWN
returns-in_ok-framework_id-in-TEARDOWN c = λ ms each.
    rw (
      c.in_ok-type_of.ensures ms (found_in c.args.found.now _ 0 _ c.index-found-0.is (omega (arith, c.requires.all)) each.0),
      c.in-TEARDOWN.is,
      c.in_ok-framework_id-in-TEARDOWN.ensures ms (found_in c.args.found.now _ 1 _ c.index-found-1.is (omega (arith, c.requires.all)) each.1.0),
    ) refl

pub returns-in_err-framework_id-in-SUPPRESS : goal.returns-in_err-framework_id-in-SUPPRESS
returns-in_err-framework_id-in-SUPPRESS c = λ ms each.
    gives_fault _ ((without_body (codes "suppress")).read c.args.path.now ms) _ c.from_residual-in_err-framework_id-in-SUPPRESS.result c.from_residual-in_err-framework_id-in-SUPPRESS.ensures.1
    (c.in_err-framework_id-in-SUPPRESS.ensures.err ms (found_in c.args.found.now _ 1 _ c.index-found-1.is (omega (arith, c.requires.all)) each.1.0) (found_in c.args.found.now _ 9 _ c.index-found-9.is (omega (arith, c.requires.all)) each.1.1.1.1.1.1.1.1.1.0))
    (λ f is. rw (c.in_ok-type_of.ensures ms (found_in c.args.found.now _ 0 _ c.index-found-0.is (omega (arith, c.requires.all)) each.0), c.in-SUPPRESS.is, is) refl)

pub returns-in_ok-framework_id-in-SUPPRESS : goal.returns-in_ok-framework_id-in-SUPPRESS
returns-in_ok-framework_id-in-SUPPRESS c = λ ms each.
    rw (
      c.in_ok-type_of.ensures ms (found_in c.args.found.now _ 0 _ c.index-found-0.is (omega (arith, c.requires.all)) each.0),
      c.in-SUPPRESS.is,
      c.in_ok-framework_id-in-SUPPRESS.ensures.ok ms (found_in c.args.found.now _ 1 _ c.index-found-1.is (omega (arith, c.requires.all)) each.1.0) (found_in c.args.found.now _ 9 _ c.index-found-9.is (omega (arith, c.requires.all)) each.1.1.1.1.1.1.1.1.1.0),
    ) refl

pub returns-in_err-framework_id-in-SHUTDOWN : goal.returns-in_err-framework_id-in-SHUTDOWN
returns-in_err-framework_id-in-SHUTDOWN c = λ ms each.
    gives_fault _ ((with_body (codes "shutdown") shutdown).read c.args.path.now ms) _ c.from_residual-in_err-framework_id-in-SHUTDOWN.result c.from_residual-in_err-framework_id-in-SHUTDOWN.ensures.1
    (c.in_err-framework_id-in-SHUTDOWN.ensures ms (found_in c.args.found.now _ 1 _ c.index-found-1.is (omega (arith, c.requires.all)) each.1.0) (found_in c.args.found.now _ 10 _ c.index-found-10.is (omega (arith, c.requires.all)) each.1.1.1.1.1.1.1.1.1.1.0))
    (λ f is. rw (c.in_ok-type_of.ensures ms (found_in c.args.found.now _ 0 _ c.index-found-0.is (omega (arith, c.requires.all)) each.0), c.in-SHUTDOWN.is, is) refl)

pub returns-in_ok-framework_id-in-SHUTDOWN : goal.returns-in_ok-framework_id-in-SHUTDOWN
returns-in_ok-framework_id-in-SHUTDOWN c = λ ms each.
    rw (
      c.in_ok-type_of.ensures ms (found_in c.args.found.now _ 0 _ c.index-found-0.is (omega (arith, c.requires.all)) each.0),
      c.in-SHUTDOWN.is,
      c.in_ok-framework_id-in-SHUTDOWN.ensures ms (found_in c.args.found.now _ 1 _ c.index-found-1.is (omega (arith, c.requires.all)) each.1.0) (found_in c.args.found.now _ 10 _ c.index-found-10.is (omega (arith, c.requires.all)) each.1.1.1.1.1.1.1.1.1.1.0),
    ) refl

pub returns-in_err-framework_id-in-MESSAGE : goal.returns-in_err-framework_id-in-MESSAGE
returns-in_err-framework_id-in-MESSAGE c = λ ms each.
    gives_fault _ ((with_body (codes "message") message_body).read c.args.path.now ms) _ c.from_residual-in_err-framework_id-in-MESSAGE.result c.from_residual-in_err-framework_id-in-MESSAGE.ensures.1
    (c.in_err-framework_id-in-MESSAGE.ensures ms (found_in c.args.found.now _ 1 _ c.index-found-1.is (omega (arith, c.requires.all)) each.1.0) (found_in c.args.found.now _ 11 _ c.index-found-11.is (omega (arith, c.requires.all)) each.1.1.1.1.1.1.1.1.1.1.1.0))
    (λ f is. rw (c.in_ok-type_of.ensures ms (found_in c.args.found.now _ 0 _ c.index-found-0.is (omega (arith, c.requires.all)) each.0), c.in-MESSAGE.is, is) refl)

pub returns-in_ok-framework_id-in-MESSAGE : goal.returns-in_ok-framework_id-in-MESSAGE
returns-in_ok-framework_id-in-MESSAGE c = λ ms each.
    rw (
      c.in_ok-type_of.ensures ms (found_in c.args.found.now _ 0 _ c.index-found-0.is (omega (arith, c.requires.all)) each.0),
      c.in-MESSAGE.is,
      c.in_ok-framework_id-in-MESSAGE.ensures ms (found_in c.args.found.now _ 1 _ c.index-found-1.is (omega (arith, c.requires.all)) each.1.0) (found_in c.args.found.now _ 11 _ c.index-found-11.is (omega (arith, c.requires.all)) each.1.1.1.1.1.1.1.1.1.1.1.0),
    ) refl
