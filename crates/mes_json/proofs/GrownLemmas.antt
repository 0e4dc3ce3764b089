-- The first n + 1 elements of a list are the first n elements and then the element at index n.
use Rattle.std.proofs.Common.{◌≡◌, ℕ, ◌+◌, ◌<◌, List, [], ◌∷◌, ◌++◌, length, take, get_or, ap, sym, ◌∙◌, add-one, take-suc}
use Rattle.mes_json.specs.declared.value.Json.{Json}

pub items_grown : (xs : List Json) (x : Json) (n : ℕ) → n < length xs → x ≡ get_or xs n x → take (n + 1) xs ≡ take n xs ++ x ∷ []
items_grown xs x n inside is =
    ap (λ (m : ℕ). take m xs) (add-one n) ∙ take-suc xs n x inside ∙ ap (λ (y : Json). take n xs ++ y ∷ []) (sym is)

pub one_longer : (xs : List (List ℕ × Json)) (x : List ℕ × Json) (n : ℕ) → n < length xs → take (n + 1) xs ≡ take n xs ++ get_or xs n x ∷ []
one_longer xs x n inside = ap (λ (m : ℕ). take m xs) (add-one n) ∙ take-suc xs n x inside

pub members_grown : (xs : List (List ℕ × Json)) (x : List ℕ × Json) (n : ℕ) → n < length xs → x ≡ get_or xs n x → take (n + 1) xs ≡ take n xs ++ x ∷ []
members_grown xs x n inside is =
    ap (λ (m : ℕ). take m xs) (add-one n) ∙ take-suc xs n x inside ∙ ap (λ (y : List ℕ × Json). take n xs ++ y ∷ []) (sym is)
