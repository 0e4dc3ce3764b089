use Rattle.std.proofs.Common.{arith}
use Rattle.mes_json.specs.Canonical.{IsKept}
use Rattle.mes_json.proofs.KeptLemmas.{marked, kept_marks, mask_at, mask_is}
use Rattle.mes_json.proofs.FrontLemmas.{front_whole, front_found}
use Rattle.mes_json.proofs.unescaped.kept_in_block.Goals as goal

pub returns-then-marks-eq0-clause-kept : goal.returns-then-marks-eq0-clause-kept
returns-then-marks-eq0-clause-kept c =
    let b = c.args.bytes.now in
    let place = c.args.place in
    front_whole IsKept marked kept_marks b place 16 (mask_at b place) (mask_is b place c.requires) c.if-marks-eq0.true

pub returns-else-marks-eq0-clause-inside : goal.returns-else-marks-eq0-clause-inside
returns-else-marks-eq0-clause-inside c =
    let b = c.args.bytes.now in
    let place = c.args.place in
    (front_found IsKept marked kept_marks b place 16 (mask_at b place) (omega arith) c.requires (mask_is b place c.requires) c.if-marks-eq0.false).inside

pub returns-else-marks-eq0-clause-kept : goal.returns-else-marks-eq0-clause-kept
returns-else-marks-eq0-clause-kept c =
    let b = c.args.bytes.now in
    let place = c.args.place in
    (front_found IsKept marked kept_marks b place 16 (mask_at b place) (omega arith) c.requires (mask_is b place c.requires) c.if-marks-eq0.false).holds

pub returns-else-marks-eq0-clause-stops : goal.returns-else-marks-eq0-clause-stops
returns-else-marks-eq0-clause-stops c =
    let b = c.args.bytes.now in
    let place = c.args.place in
    (front_found IsKept marked kept_marks b place 16 (mask_at b place) (omega arith) c.requires (mask_is b place c.requires) c.if-marks-eq0.false).stops
