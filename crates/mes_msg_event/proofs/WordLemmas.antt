-- Lemmas: consecutive words are appended to a line.
use Rattle.std.specs.Prelude.{◌≡◌, ℕ, List, [], ◌∷◌, ◌++◌, codes, Result, Ok, Err, IfOk}
use Rattle.std.proofs.Common.{append_assoc, append-nil, refl}
use Rattle.mes_msg_event.specs.ShowLines.{spaced}

pub three_words : {T E : Type 0} (r : Result T E) (old a b c x y z : List ℕ) → a ≡ old ++ (codes " " ++ x) → b ≡ a ++ (codes " " ++ y)
    → IfOk r (λ _. c ≡ b ++ (codes " " ++ z)) → IfOk r (λ _. c ≡ old ++ spaced (x ∷ y ∷ z ∷ []))
three_words (Ok done) old a b c x y z one two three = rw three (rw two (rw one (simp (append_assoc, append-nil) refl)))
three_words (Err e) old a b c x y z one two three = tt
