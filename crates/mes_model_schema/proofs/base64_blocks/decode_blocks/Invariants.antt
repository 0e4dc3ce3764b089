use Rattle.std.proofs.Common.{◌≡◌, ◌*◌, take}
use Rattle.base64.specs.GeneralPurpose.{encode_of}
use Rattle.base64.specs.Engines.{standard}
use Rattle.mes_model_schema.proofs.base64_blocks.decode_blocks.Given as goal

abbrev pub invariant-loop-block : goal.invariant-loop-block
invariant-loop-block l = take (16 * l.block) l.text ≡ encode_of standard (take (12 * l.block) l.octets)
