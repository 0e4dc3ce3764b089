use Rattle.std.proofs.Common.{refl, ◌+◌, arith}
use Rattle.mes_json.proofs.DigitLemmas.{digit_front_taken}
use Rattle.mes_json.proofs.BlankLemmas.{blanks_taken}
use Rattle.mes_json.proofs.reader.Reader.take_alike.Goals as goal

pub returns-in-Digits : goal.returns-in-Digits
returns-in-Digits c =
    digit_front_taken c.args.self.now _ c.in-Digits.part c.args.bytes.now (c.args.place + 1) c.digit_run.result c.append_front.result c.requires.fits c.in-Digits.is (c.if-continues_number.ensures.0 refl)
    (omega (arith, c.requires.inside)) c.digit_run.ensures.inside c.digit_run.ensures.digits c.append_front.ensures.all
    (record { at = c.in-Digits.is; text = c.append_front.ensures.text; nodes = refl; nesting = refl; start = refl })

pub returns-else-bytes-place-gt32 : goal.returns-else-bytes-place-gt32
returns-else-bytes-place-gt32 c =
    blanks_taken c.args.self.now c.args.bytes.now (c.args.place + 1) c.blank_run.result c.requires.fits c.in-Value.is (omega (arith, c.requires.inside))
    c.blank_run.ensures.inside c.blank_run.ensures.blank
