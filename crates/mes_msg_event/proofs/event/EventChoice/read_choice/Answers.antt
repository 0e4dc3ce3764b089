use Rattle.std.proofs.Common.{refl, arith}
use Rattle.std.specs.Prelude.{codes}
use Rattle.mes_model_schema.specs.Rows.{required}
use Rattle.mes_msg_event_body.specs.Bodies.{subscribed}
use Rattle.mes_model_schema.proofs.ChoiceLemmas.{found_in, gives_fault}
use Rattle.mes_msg_event_body.proofs.NameLemmas.{is_other}
use Rattle.mes_msg_event.proofs.event.EventChoice.read_choice.Goals as goal

pub returns-in_err-required-in-SUBSCRIBED : goal.returns-in_err-required-in-SUBSCRIBED
returns-in_err-required-in-SUBSCRIBED c = λ ms each.
    gives_fault _ (required (codes "subscribed") subscribed c.args.path.now ms) _ c.from_residual-in_err-required-in-SUBSCRIBED.result c.from_residual-in_err-required-in-SUBSCRIBED.ensures.1
    (c.in_err-required-in-SUBSCRIBED.ensures ms (found_in c.args.found.now _ 1 _ c.index-found-1.is (omega (arith, c.requires.all)) each.1.0))
    (λ f is. rw (c.in_ok-name.ensures ms (found_in c.args.found.now _ 0 _ c.index-found-0.is (omega (arith, c.requires.all)) each.0), c.in-SUBSCRIBED.is, is) refl)

pub of_type-requires : goal.of_type-requires
of_type-requires c =
    is_other c.in_ok-name.name.now c.in_default.not-SUBSCRIBED c.in_default.not-OFFERS c.in_default.not-RESCIND c.in_default.not-UPDATE
    c.in_default.not-MESSAGE c.in_default.not-FAILURE c.in_default.not-ERROR c.in_default.not-HEARTBEAT

pub returns-in_ok-required-in-SUBSCRIBED : goal.returns-in_ok-required-in-SUBSCRIBED
returns-in_ok-required-in-SUBSCRIBED c = λ ms each.
    rw (
      c.in_ok-name.ensures ms (found_in c.args.found.now _ 0 _ c.index-found-0.is (omega (arith, c.requires.all)) each.0),
      c.in-SUBSCRIBED.is,
      c.in_ok-required-in-SUBSCRIBED.ensures ms (found_in c.args.found.now _ 1 _ c.index-found-1.is (omega (arith, c.requires.all)) each.1.0),
    ) refl
