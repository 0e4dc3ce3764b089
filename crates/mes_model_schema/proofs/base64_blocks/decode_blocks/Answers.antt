use Rattle.std.proofs.Common.{sym, arith}
use Rattle.base64.proofs.EngineFacts.{encode_of-nil}
use Rattle.base64.specs.Engines.{standard}
use Rattle.mes_model_schema.proofs.BlockLemmas.{letters_encode, block_more}
use Rattle.mes_model_schema.proofs.base64_blocks.decode_blocks.Goals as goal

pub loop-block-init : goal.loop-block-init
loop-block-init c = sym (encode_of-nil standard)

pub loop-block-preserved : goal.loop-block-preserved
loop-block-preserved c =
    let letters = c.faults.ensures (omega arith) in
    block_more c.args.text.now c.loop-block.octets c.packed.result c.loop-block.block c.packed.ensures.lanes (omega arith) c.loop-block.invariant
    (letters_encode _ c.values.result c.packed.result letters (c.values.ensures letters) c.packed.ensures.exact)
