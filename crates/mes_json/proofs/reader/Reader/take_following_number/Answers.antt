use Rattle.std.proofs.Common.{◌<◌, length, refl, arith}
use Rattle.mes_json.proofs.TakenLemmas.{stays_taken}
use Rattle.mes_json.proofs.MemberLemmas.{token_taken}
use Rattle.mes_json.proofs.reader.Reader.take_following_number.Goals as goal

pub returns-then-end_number_before : goal.returns-then-end_number_before
returns-then-end_number_before c =
    let inside : c.args.from < length c.args.bytes.now = omega (arith, c.requires.inside, c.if-from-bytes.false) in
    token_taken c.args.self.now c.end_number_before.new.self c.args.bytes.now c.args.from _ c.requires.fits inside refl
    (c.end_number_before.ensures.gives c.if-end_number_before.true) (c.end_number_before.ensures.fits c.if-end_number_before.true)

pub returns-else-end_number_before : goal.returns-else-end_number_before
returns-else-end_number_before c =
    stays_taken c.args.self.now c.end_number_before.new.self c.args.bytes.now c.args.from c.requires.fits c.requires.inside
    (c.end_number_before.ensures.stays c.if-end_number_before.false)
