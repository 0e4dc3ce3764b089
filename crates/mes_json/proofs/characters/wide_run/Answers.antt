use Rattle.std.proofs.Common.{arith}
use Rattle.mes_json.proofs.TakenLemmas.{within_rest}
use Rattle.mes_json.proofs.CharacterLemmas.{leads_nowhere, stands_further}
use Rattle.mes_json.proofs.characters.wide_run.Goals as goal

pub loop-place-init : goal.loop-place-init
loop-place-init c = record { inside = omega arith; whole = leads_nowhere }

pub loop-place-preserved : goal.loop-place-preserved
loop-place-preserved c =
    let b = c.args.bytes.now in
    let place = c.loop-place.place in
    let wide = c.wide_character-wide.result in
    record {
      inside = within_rest b place wide c.loop-place.invariant.inside c.wide_character-wide.ensures.inside;
      whole = stands_further b place wide c.loop-place.invariant.inside c.loop-place.invariant.whole c.wide_character-wide.ensures.whole;
    }

pub returns-then-bytes-lt-LONGEST-clause-whole : goal.returns-then-bytes-lt-LONGEST-clause-whole
returns-then-bytes-lt-LONGEST-clause-whole c = leads_nowhere
