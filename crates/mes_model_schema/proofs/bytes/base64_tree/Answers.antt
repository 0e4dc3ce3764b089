use Rattle.std.proofs.Common.{arith}
use Rattle.mes_model_schema.specs.Binary.{base64_bytes}
use Rattle.mes_model_schema.specs.BinaryLaws.{base64_bytes_return}
use Rattle.mes_model_schema.proofs.TreeLemmas.{view_text}
use Rattle.mes_model_schema.proofs.bytes.base64_tree.Goals as goal

pub returns-clause-tree : goal.returns-clause-tree
unfolding base64_bytes
returns-clause-tree c = rw (c.new.ensures, c.in_ok-text.ensures.text) (view_text _)

pub returns-clause-back : goal.returns-clause-back
returns-clause-back c = base64_bytes_return c.args.octets.now (λ i. let f = c.type_inv.octets i in omega arith)
