use Rattle.std.proofs.Common.{arith}
use Rattle.mes_model_schema.specs.BinaryLaws.{base64_bytes_return}
use Rattle.mes_model_schema.proofs.bytes.octets_read_back.Goals as goal

pub returns : goal.returns
returns c = base64_bytes_return c.args.octets.now (λ i. let f = c.type_inv.octets i in omega arith)
