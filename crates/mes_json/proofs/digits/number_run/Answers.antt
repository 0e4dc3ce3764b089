use Rattle.std.proofs.Common.{refl, sym, ◌∙◌}
use Rattle.mes_fixed.specs.declared.automaton.NumberState.TheVariants.{AtStart}
use Rattle.mes_json.proofs.DigitLemmas.{leads, part_more}
use Rattle.mes_json.proofs.digits.number_run.Goals as goal

pub loop-place-preserved : goal.loop-place-preserved
loop-place-preserved c =
    part_more AtStart c.loop-place.part c.in-Some.next c.args.bytes.now c.loop-place.place c.loop-place-test.true c.loop-place.invariant
    (sym c.next_state.ensures.next ∙ c.in-Some.is)

pub loop-place-preserved-then-continues_number : goal.loop-place-preserved-then-continues_number
loop-place-preserved-then-continues_number c =
    part_more AtStart c.loop-place.part c.loop-place.part c.args.bytes.now c.loop-place.place c.loop-place-test.true c.loop-place.invariant
    (leads c.loop-place.part _ (c.if-continues_number.ensures.0 refl) (c.if-is_digit.ensures.0 refl))
