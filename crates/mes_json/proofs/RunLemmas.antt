-- Runs of the state machine over concatenated bytes, and over prefixes.
use Rattle.std.proofs.Common.{◌≡◌, ℕ, ◌+◌, ◌<◌, List, [], ◌∷◌, ◌++◌, length, get_or, take, Option, Some, None, option_and_then, refl, ap, ◌∙◌, take-suc, add-one}
use Rattle.mes_json.specs.Machine.{State, step, run}

-- a run over a ++ b is a run over a, and then a run over b from the state reached
pub run_append : (d : ℕ) (s : State) (a b : List ℕ) → run d s (a ++ b) ≡ option_and_then (λ next. run d next b) (run d s a)
unfolding run
run_append d s [] b = refl
run_append d s (c ∷ a) b = by (step d s c) (λ next. run_append d next a b)
  where
    by : (o : Option State) → ((next : State) → run d next (a ++ b) ≡ option_and_then (λ last. run d last b) (run d next a))
        → option_and_then (λ next. run d next (a ++ b)) o ≡ option_and_then (λ last. run d last b) (option_and_then (λ next. run d next a) o)
    by None h = refl
    by (Some next) h = h next

pub run_on : (d : ℕ) (s next : State) (a b : List ℕ) → run d s a ≡ Some next → run d s (a ++ b) ≡ run d next b
run_on d s next a b e = run_append d s a b ∙ ap (option_and_then (λ last. run d last b)) e

-- a run that has stopped does not continue
pub run_none : (d : ℕ) (s : State) (a b : List ℕ) → run d s a ≡ None → run d s (a ++ b) ≡ None
run_none d s a b e = run_append d s a b ∙ ap (option_and_then (λ last. run d last b)) e

pub run_one : (d : ℕ) (s : State) (c : ℕ) → run d s (c ∷ []) ≡ step d s c
unfolding run
run_one d s c = by (step d s c)
  where
    by : (o : Option State) → option_and_then (λ next. run d next []) o ≡ o
    by None = refl
    by (Some next) = refl

pub run_more : (d : ℕ) (s next : State) (p : List ℕ) (c : ℕ) → run d s p ≡ Some next → run d s (p ++ c ∷ []) ≡ step d next c
run_more d s next p c e = run_on d s next p (c ∷ []) e ∙ run_one d next c

-- a run over the first n + 1 bytes, from the run over the first n
pub run_take : (d : ℕ) (s next : State) (b : List ℕ) (n : ℕ) → n < length b → run d s (take n b) ≡ Some next → run d s (take (n + 1) b) ≡ step d next (get_or b n 0)
run_take d s next b n l e = ap (λ (m : ℕ). run d s (take m b)) (add-one n) ∙ ap (run d s) (take-suc b n 0 l) ∙ run_more d s next (take n b) (get_or b n 0) e
