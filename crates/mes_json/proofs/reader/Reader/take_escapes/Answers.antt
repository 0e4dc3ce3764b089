use Rattle.std.proofs.Common.{◌+◌}
use Rattle.mes_json.proofs.PlainLemmas.{runs_further}
use Rattle.mes_json.proofs.TakenLemmas.{stays_taken}
use Rattle.mes_json.proofs.WholeEscapes.{escape_taken}
use Rattle.mes_json.proofs.reader.Reader.take_escapes.Goals as goal

pub take_characters-place-requires-clause-fits : goal.take_characters-place-requires-clause-fits
take_characters-place-requires-clause-fits c =
    (escape_taken c.loop-place.self c.append_character.new.self c.args.purpose c.args.bytes.now c.loop-place.place c.in-Some.taken c.in-Some.character
    c.loop-place.invariant.runs.fits c.loop-place.invariant.at c.loop-place-test.true c.if-bytes-place-eq92.true c.in-Some.ensures.inside c.in-Some.ensures.makes
    c.in_default-append_character.ensures.ok).fits

pub loop-place-preserved : goal.loop-place-preserved
loop-place-preserved c =
    let over = escape_taken c.loop-place.self c.append_character.new.self c.args.purpose c.args.bytes.now c.loop-place.place c.in-Some.taken c.in-Some.character
    c.loop-place.invariant.runs.fits c.loop-place.invariant.at c.loop-place-test.true c.if-bytes-place-eq92.true c.in-Some.ensures.inside c.in-Some.ensures.makes
    c.in_default-append_character.ensures.ok in
    record {
      runs = runs_further c.args.self.now c.loop-place.self c.take_characters-place.new.self c.args.bytes.now c.args.from c.loop-place.place c.take_characters-place.result
          c.loop-place.invariant.runs
          (runs_further c.loop-place.self c.append_character.new.self c.take_characters-place.new.self c.args.bytes.now c.loop-place.place
          (c.loop-place.place + 1 + c.in-Some.taken) c.take_characters-place.result over c.take_characters-place.ensures.runs);
      at = c.take_characters-place.ensures.at;
    }

pub returns-in-Err : goal.returns-in-Err
returns-in-Err c =
    runs_further c.args.self.now c.loop-place.self c.append_character.new.self c.args.bytes.now c.args.from c.loop-place.place c.loop-place.place c.loop-place.invariant.runs
    (stays_taken c.loop-place.self c.append_character.new.self c.args.bytes.now c.loop-place.place c.loop-place.invariant.runs.fits c.loop-place.invariant.runs.inside c.in-Err.ensures.err)
