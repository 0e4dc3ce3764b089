-- Lemmas about the earliest of some times.
use Rattle.std.proofs.Common.{◌≡◌, ℕ, min, fold, List, [], ◌∷◌, ◌++◌, Some, refl, sym, ap, ◌∙◌, append-nil, arith}
use Rattle.mes_double_cluster.specs.Times.{earlier, earliest}

min_of_three : (a b c : ℕ) → min (min a b) c ≡ min a (min b c)
min_of_three a b c = omega arith

fold_min : (a b : ℕ) (times : List ℕ) → fold min (min a b) times ≡ min a (fold min b times)
fold_min a b [] = refl
fold_min a b (c ∷ cs) = ap (λ m. fold min m cs) (min_of_three a b c) ∙ fold_min a (min b c) cs

fold_both : (a : ℕ) (xs ys : List ℕ) → fold min a (xs ++ ys) ≡ fold min (fold min a xs) ys
fold_both a [] ys = refl
fold_both a (x ∷ xs) ys = fold_both (min a x) xs ys

pub earliest_of_both : (xs ys : List ℕ) → earlier (earliest xs) (earliest ys) ≡ earliest (xs ++ ys)
earliest_of_both [] ys = refl
earliest_of_both (x ∷ xs) [] = ap (λ zs. Some (fold min x zs)) (sym (append-nil xs))
earliest_of_both (x ∷ xs) (y ∷ ys) = ap Some (sym (fold_both x xs (y ∷ ys) ∙ fold_min (fold min x xs) y ys))
