use Rattle.std.proofs.Common.{◌≡◌, ◌*◌, take}
use Rattle.base64.specs.GeneralPurpose.{encode_of}
use Rattle.base64.specs.Engines.{standard}
use Rattle.mes_model_schema.proofs.base64_text.decode_front.Given as goal

abbrev pub invariant-loop-group : goal.invariant-loop-group
invariant-loop-group l = take (4 * l.group) l.text ≡ encode_of standard (take (3 * l.group) l.octets)
