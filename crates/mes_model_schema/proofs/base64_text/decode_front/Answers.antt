use Rattle.std.proofs.Common.{◌≡◌, ◌*◌, ◌/◌, ◌∙◌, refl, arith, rules}
use Rattle.std.specs.Int.{w32, to_le_bytes}
use Rattle.mes_model_schema.proofs.LetterLemmas.{front_more}
use Rattle.mes_model_schema.proofs.base64_text.decode_front.Goals as goal

pub loop-group-init : goal.loop-group-init
loop-group-init c =
    let n16 : 4 * (4 * c.decode_blocks-blocks.result) ≡ 16 * c.decode_blocks-blocks.result = omega arith in
    let n12 : 3 * (4 * c.decode_blocks-blocks.result) ≡ 12 * c.decode_blocks-blocks.result = omega arith in
    rw (n16, n12) c.decode_blocks-blocks.ensures.front

pub loop-group-preserved : goal.loop-group-preserved
loop-group-preserved c =
    let written : c.copy_from_slice.new.self ≡ to_le_bytes w32 c.group_bytes-bytes.result = search rules in
    front_more c.args.text.now c.loop-group.octets c.copy_from_slice.new.self c.loop-group.group _ (omega arith) c.loop-group.invariant
    (c.group_bytes-bytes.ensures (omega arith) ∙ rw written refl) (rw written (omega arith))

pub returns-clause-front : goal.returns-clause-front
returns-clause-front c =
    let done : c.loop-group.group ≡ c.saturating_sub-groups.result / 4 = omega arith in
    rw done at c.loop-group.invariant
