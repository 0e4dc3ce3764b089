use Rattle.std.proofs.Common.{refl, arith}
use Rattle.base64.specs.GeneralPurpose.{IsBytes}
use Rattle.mes_model_schema.proofs.LetterLemmas.{entries_bound, one_byte, two_bytes}
use Rattle.mes_model_schema.proofs.base64_text.last_group.Goals as goal

pub overflow_add-bytes : goal.overflow_add-bytes
overflow_add-bytes c =
    let small : IsBytes c.args.text.now = λ i. let f = c.type_inv.text i in omega arith in
    let b = entries_bound _ _ 0 0 (small 0) (small 1) (omega arith) (omega arith) in
    omega (arith, b.0, b.1)

pub overflow_add-bytes-2 : goal.overflow_add-bytes-2
overflow_add-bytes-2 c =
    let small : IsBytes c.args.text.now = λ i. let f = c.type_inv.text i in omega arith in
    let b = entries_bound _ _ _ 0 (small 0) (small 1) (small 2) (omega arith) in
    omega (arith, b.0, b.1, b.2)

pub returns-then-bytes-lt256-clause-exact : goal.returns-then-bytes-lt256-clause-exact
returns-then-bytes-lt256-clause-exact c =
    one_byte c.args.text.now _ (λ i. let f = c.type_inv.text i in omega arith) (omega arith) (omega arith) (omega arith) refl (omega arith)

pub returns-then-bytes-lt65536-clause-exact : goal.returns-then-bytes-lt65536-clause-exact
returns-then-bytes-lt65536-clause-exact c =
    two_bytes c.args.text.now _ (λ i. let f = c.type_inv.text i in omega arith) (omega arith) (omega arith) refl (omega arith)
