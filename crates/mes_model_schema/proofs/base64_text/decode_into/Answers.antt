use Rattle.std.proofs.Common.{◌≡◌, ◌*◌, ◌∙◌, refl, sym, take, arith, rules}
use Rattle.std.specs.Int.{w32, to_le_bytes}
use Rattle.std.proofs.lemmas.Slice.{between_to_end}
use Rattle.mes_model_schema.proofs.LetterLemmas.{front_ends}
use Rattle.mes_model_schema.proofs.base64_text.decode_into.Goals as goal

pub returns-clause-exact : goal.returns-clause-exact
returns-clause-exact c =
    let written : c.copy_from_slice.new.self ≡ take 3 (to_le_bytes w32 c.in_ok-count.bytes) = search rules in
    front_ends c.args.text.now c.decode_front-groups.new.octets c.copy_from_slice.new.self _ c.decode_front-groups.result c.in_ok-count.count _ c.decode_front-groups.ensures.in_octets
    c.decode_front-groups.ensures.front (sym (between_to_end c.args.text.now (4 * c.decode_front-groups.result) _ (omega arith)) ∙ c.in_ok-count.ensures.exact) c.in_ok-count.ensures.few (rw written refl) written
