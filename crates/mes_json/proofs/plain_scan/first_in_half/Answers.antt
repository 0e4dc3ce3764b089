use Rattle.std.proofs.Common.{arith}
use Rattle.mes_json.specs.Reader.{IsPlain}
use Rattle.mes_json.proofs.BlockLemmas.{marked, plain_marks, mask_at, mask_is}
use Rattle.mes_json.proofs.FrontLemmas.{front_whole, front_found}
use Rattle.mes_json.proofs.plain_scan.first_in_half.Goals as goal

pub returns-then-marks-eq0-clause-plain : goal.returns-then-marks-eq0-clause-plain
returns-then-marks-eq0-clause-plain c =
    let b = c.args.bytes.now in
    let place = c.args.place in
    front_whole IsPlain marked plain_marks b place 8 (mask_at 8 b place) (mask_is 8 b place (omega arith) c.requires) c.if-marks-eq0.true

pub returns-else-marks-eq0-clause-inside : goal.returns-else-marks-eq0-clause-inside
returns-else-marks-eq0-clause-inside c =
    let b = c.args.bytes.now in
    let place = c.args.place in
    (front_found IsPlain marked plain_marks b place 8 (mask_at 8 b place) (omega arith) c.requires (mask_is 8 b place (omega arith) c.requires) c.if-marks-eq0.false).inside

pub returns-else-marks-eq0-clause-plain : goal.returns-else-marks-eq0-clause-plain
returns-else-marks-eq0-clause-plain c =
    let b = c.args.bytes.now in
    let place = c.args.place in
    (front_found IsPlain marked plain_marks b place 8 (mask_at 8 b place) (omega arith) c.requires (mask_is 8 b place (omega arith) c.requires) c.if-marks-eq0.false).holds

pub returns-else-marks-eq0-clause-stops : goal.returns-else-marks-eq0-clause-stops
returns-else-marks-eq0-clause-stops c =
    let b = c.args.bytes.now in
    let place = c.args.place in
    (front_found IsPlain marked plain_marks b place 8 (mask_at 8 b place) (omega arith) c.requires (mask_is 8 b place (omega arith) c.requires) c.if-marks-eq0.false).stops
