use Rattle.std.proofs.Common.{ℕ, ◌+◌, ◌<◌, slice_index, refl, arith}
use Rattle.mes_model_schema.proofs.LetterLemmas.{entries_bound, group_encodes}
use Rattle.mes_model_schema.proofs.base64_text.group_bytes.Goals as goal

pub overflow_add-result-2 : goal.overflow_add-result-2
overflow_add-result-2 c =
    let s : (i : ℕ) → slice_index c.args.text.now i < 256 = λ i. let f = c.type_inv.text i in omega arith in
    let b = entries_bound _ _ _ _ (s c.args.at) (s (c.args.at + 1)) (s (c.args.at + 2)) (s (c.args.at + 3)) in
    omega (arith, b.0, b.1)

pub overflow_add-result-4 : goal.overflow_add-result-4
overflow_add-result-4 c =
    let s : (i : ℕ) → slice_index c.args.text.now i < 256 = λ i. let f = c.type_inv.text i in omega arith in
    let b = entries_bound _ _ _ _ (s c.args.at) (s (c.args.at + 1)) (s (c.args.at + 2)) (s (c.args.at + 3)) in
    omega (arith, b.0, b.1, b.2)

pub overflow_add-result-6 : goal.overflow_add-result-6
overflow_add-result-6 c =
    let s : (i : ℕ) → slice_index c.args.text.now i < 256 = λ i. let f = c.type_inv.text i in omega arith in
    let b = entries_bound _ _ _ _ (s c.args.at) (s (c.args.at + 1)) (s (c.args.at + 2)) (s (c.args.at + 3)) in
    omega (arith, b.0, b.1, b.2, b.3)

pub returns : goal.returns
returns c = λ less. group_encodes c.args.text.now c.args.at _ (λ i. let f = c.type_inv.text i in omega arith) c.requires refl less
