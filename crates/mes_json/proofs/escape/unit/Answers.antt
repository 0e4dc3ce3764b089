use Rattle.std.proofs.Common.{◌≡◌, ◌+◌, ◌*◌, take, Some}
use Rattle.std.specs.Char.{IsScalar}
use Rattle.mes_fixed.proofs.Options.{some_if}
use Rattle.mes_json.specs.Escape.{made_of}
use Rattle.mes_json.specs.Escape.Escape.{backslash}
use Rattle.mes_json.specs.Escape.Move.{on}
use Rattle.mes_json.proofs.WholeEscapes.{unit_makes}
use Rattle.mes_json.proofs.escape.unit.Goals as goal

pub returns-clause-makes : goal.returns-clause-makes
returns-clause-makes c =
    some_if c.from_u32.result (IsScalar (c.from.result * 256 + c.from-2.result)) (c.from.result * 256 + c.from-2.result)
    (λ made. made_of (on backslash) (take 5 c.args.bytes.now) ≡ Some made) c.from_u32.ensures.value
    (unit_makes c.args.bytes.now c.in_ok-hex.field-0 c.in_ok-front.field-0 c.in_ok-hex-2.field-0 c.in_ok-back.field-0 c.from.result c.from-2.result
    c.if-bytes-lt5.false c.requires.begins.1 c.in_ok-hex.ensures.value c.in_ok-front.ensures.value c.in_ok-hex-2.ensures.value c.in_ok-back.ensures.value
    c.in_ok-hex-2.ensures.small c.in_ok-back.ensures.small c.from.ensures c.from-2.ensures)
