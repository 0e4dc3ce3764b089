-- Lemmas about lists of consecutive stream ids.
use Rattle.std.proofs.Common.{◌≡◌, ◌∙◌, ap, arith, ℕ, List, [], ◌∷◌, ◌++◌, ◌+◌, refl, suc}
use Rattle.uuid.specs.Text.{by_index}

pub none_yet : {X : Type 0} (f : ℕ → X) → [] ≡ by_index 0 f
unfolding by_index
none_yet f = refl

next_of : (n : ℕ) → suc n ≡ n + 1
next_of n = omega arith

more : {X : Type 0} (f : ℕ → X) (n : ℕ) → by_index n f ++ f n ∷ [] ≡ by_index (suc n) f
unfolding by_index
more f n = refl

pub one_more : {X : Type 0} (f : ℕ → X) (n : ℕ) (front : List X) (x : X) → front ≡ by_index n f → x ≡ f n → front ++ x ∷ [] ≡ by_index (n + 1) f
one_more f n front x is same = rw (is, same) (more f n ∙ ap (λ (k : ℕ). by_index k f) (next_of n))
