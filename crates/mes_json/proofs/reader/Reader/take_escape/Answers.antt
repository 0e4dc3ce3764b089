use Rattle.std.proofs.Common.{◌+◌, ap, sym, ◌∙◌, refl}
use Rattle.mes_json.specs.EscapeView.{move_view}
use Rattle.mes_json.proofs.StringLemmas.{escape_known}
use Rattle.mes_json.proofs.PlainLemmas.{runs_further}
use Rattle.mes_json.proofs.TakenLemmas.{nothing_taken, stays_taken}
use Rattle.mes_json.proofs.EscapeTaken.{none_reached, runs_inside, on_taken, on_reached, end_taken, end_reached}
use Rattle.mes_json.proofs.reader.Reader.take_escape.Goals as goal

pub loop-place-init : goal.loop-place-init
loop-place-init c = record {
  runs = nothing_taken c.args.self.now c.args.bytes.now c.args.from c.requires.fits c.requires.inside;
  reached = c.requires.reached;
  at = c.requires.at;
}

pub step-requires : goal.step-requires
step-requires c = escape_known c.loop-place.self c.args.purpose c.loop-place.escape c.loop-place.invariant.runs.fits c.loop-place.invariant.reached c.loop-place.invariant.at

pub take_string-requires-clause-fits : goal.take_string-requires-clause-fits
take_string-requires-clause-fits c =
    let here = runs_inside c.args.purpose c.loop-place.escape c.args.self.now c.loop-place.self c.args.bytes.now c.args.from c.loop-place.place c.loop-place.invariant.at c.loop-place.invariant.runs in
    (end_taken c.args.purpose c.loop-place.escape c.args.self.now c.loop-place.self c.append_character.new.self c.args.bytes.now c.args.from c.loop-place.place
    c.in-Makes.character c.in-Ok.ensures.ok here c.loop-place-test.true (sym (ap move_view c.in-Makes.is) ∙ c.step.ensures)).fits

pub take_string-requires-clause-reached : goal.take_string-requires-clause-reached
take_string-requires-clause-reached c =
    let here = runs_inside c.args.purpose c.loop-place.escape c.args.self.now c.loop-place.self c.args.bytes.now c.args.from c.loop-place.place c.loop-place.invariant.at c.loop-place.invariant.runs in
    end_reached c.args.purpose c.loop-place.escape c.loop-place.self c.append_character.new.self _ c.in-Makes.character c.in-Ok.ensures.ok here.fits
    (none_reached c.args.purpose c.loop-place.escape c.loop-place.self c.loop-place.invariant.at c.loop-place.invariant.reached) (sym (ap move_view c.in-Makes.is) ∙ c.step.ensures)

pub returns-in-Ok : goal.returns-in-Ok
returns-in-Ok c =
    let here = runs_inside c.args.purpose c.loop-place.escape c.args.self.now c.loop-place.self c.args.bytes.now c.args.from c.loop-place.place c.loop-place.invariant.at c.loop-place.invariant.runs in
    let ended = end_taken c.args.purpose c.loop-place.escape c.args.self.now c.loop-place.self c.append_character.new.self c.args.bytes.now c.args.from c.loop-place.place
    c.in-Makes.character c.in-Ok.ensures.ok here c.loop-place-test.true (sym (ap move_view c.in-Makes.is) ∙ c.step.ensures) in
    runs_further c.args.self.now c.append_character.new.self c.take_string.new.self c.args.bytes.now c.args.from (c.loop-place.place + 1) c.take_string.result ended c.take_string.ensures

pub returns-in-Err : goal.returns-in-Err
returns-in-Err c =
    runs_further c.args.self.now c.loop-place.self c.append_character.new.self c.args.bytes.now c.args.from c.loop-place.place c.loop-place.place c.loop-place.invariant.runs
    (stays_taken c.loop-place.self c.append_character.new.self c.args.bytes.now c.loop-place.place c.loop-place.invariant.runs.fits c.loop-place.invariant.runs.inside c.in-Err.ensures.err)

pub loop-place-preserved : goal.loop-place-preserved
loop-place-preserved c =
    let here = runs_inside c.args.purpose c.loop-place.escape c.args.self.now c.loop-place.self c.args.bytes.now c.args.from c.loop-place.place c.loop-place.invariant.at c.loop-place.invariant.runs in
    let goes = sym (ap move_view c.in-On.is) ∙ c.step.ensures in
    record {
      runs = on_taken c.args.purpose c.loop-place.escape c.in-On.next c.args.self.now c.loop-place.self c.args.bytes.now c.args.from c.loop-place.place here c.loop-place-test.true goes;
      reached = on_reached c.args.purpose c.loop-place.escape c.in-On.next c.loop-place.self _ here.fits
          (none_reached c.args.purpose c.loop-place.escape c.loop-place.self c.loop-place.invariant.at c.loop-place.invariant.reached) goes;
      at = refl;
    }
