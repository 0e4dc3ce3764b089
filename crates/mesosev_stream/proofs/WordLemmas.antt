-- The words of a line, appended one by one.
use Rattle.std.proofs.Common.{◌≡◌, ℕ, List, [], ◌∷◌, ◌++◌, Result, Ok, Err, ◌∙◌, ap, sym, append_assoc, append-nil}
use Rattle.std.specs.Prelude.{IfOk}
use Rattle.mes_msg.specs.ShowLines.{spaced}

-- three words after each other; the last is appended by a call that may fail
pub three_words : {T E : Type 0} (result : Result T E) (old one two new first second third : List ℕ) → one ≡ old ++ 32 ∷ first → two ≡ one ++ 32 ∷ second
    → IfOk result (λ done. new ≡ two ++ 32 ∷ third) → IfOk result (λ done. new ≡ old ++ spaced (first ∷ second ∷ third ∷ []))
three_words (Ok done) old one two new first second third is_one is_two is_new =
    is_new ∙ ap (λ (t : List ℕ). t ++ 32 ∷ third) (is_two ∙ ap (λ (t : List ℕ). t ++ 32 ∷ second) is_one)
    ∙ append_assoc (old ++ 32 ∷ first) (32 ∷ second) (32 ∷ third) ∙ append_assoc old (32 ∷ first) (32 ∷ second ++ 32 ∷ third)
    ∙ ap (λ (t : List ℕ). old ++ (32 ∷ first ++ (32 ∷ second ++ t))) (sym (append-nil (32 ∷ third)))
three_words (Err why) old one two new first second third is_one is_two is_new = tt
