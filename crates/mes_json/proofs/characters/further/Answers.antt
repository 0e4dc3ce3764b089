use Rattle.std.proofs.Common.{◌+◌}
use Rattle.mes_json.proofs.TakenLemmas.{within_rest}
use Rattle.mes_json.proofs.CharacterLemmas.{plain_stands, stands_further}
use Rattle.mes_json.proofs.characters.further.Goals as goal

pub loop-place-preserved : goal.loop-place-preserved
loop-place-preserved c =
    let b = c.args.bytes.now in
    let place = c.loop-place.place in
    let wide = c.wide_run-wide.result in
    let plain = c.plain_run-place.result in
    let inside = within_rest b place wide c.loop-place.invariant.inside c.wide_run-wide.ensures.inside in
    record {
      inside = within_rest b (place + wide) plain inside c.plain_run-place.ensures.inside;
      whole = stands_further b (place + wide) plain inside
          (stands_further b place wide c.loop-place.invariant.inside c.loop-place.invariant.whole c.wide_run-wide.ensures.whole)
          (plain_stands _ c.plain_run-place.ensures.plain);
    }
