-- Lemmas about the position of the first space of a text.
use Rattle.std.proofs.Common.{◌≡◌, ℕ, ◌+◌, ◌-◌, ◌<◌, ◌≤◌, ◌==◌, Bool, true, false, not, cond, List, [], ◌∷◌, ◌++◌, length, take, drop, get_or, Some, None, position, nat_lt, refl, sym, ap, ◌∙◌, arith, length-take, get_or-take, length-drop, take-append-drop}
use Rattle.std.specs.List.{position_or_len}
use Rattle.std.proofs.lemmas.Bool.{eqb-true}
use Rattle.std.proofs.lemmas.Bool.Decides.{nat_tests}
use Rattle.std.proofs.lemmas.List.{take_all, take_more, drop_more}
use Rattle.std.proofs.lemmas.List.Quantifiers.{position-Some}
use Rattle.std.proofs.lemmas.List.Elements.{All-nil, All-cons, All-from_get_or}
use Rattle.httparse.specs.Grammar.{AllPass}
use Rattle.mes_double_http.specs.Stops.{is_no_space}

abbrev is_space : ℕ → Bool
is_space b = b == 32

pub space_found : (xs : List ℕ) (i : ℕ) → position is_space xs ≡ Some i → AllPass is_no_space (take i xs)
space_found xs i at =
    let first = position-Some is_space xs i 0 at in
    All-from_get_or (λ (b : ℕ). is_no_space b ≡ true) (take i xs) 0
    λ k inside. let within : k < i = omega (arith, length-take i xs, inside) in
    ap (λ (b : ℕ). is_no_space b) (get_or-take i xs k 0 within) ∙ ap not (first.2 k within)

pub space_splits : (xs : List ℕ) (i : ℕ) → position is_space xs ≡ Some i → xs ≡ take i xs ++ 32 ∷ drop (i + 1) xs
space_splits xs i at =
    let first = position-Some is_space xs i 0 at in
    sym (take-append-drop i xs) ∙ ap (λ (t : List ℕ). take i xs ++ t) (drop_more xs i 0 first.0)
    ∙ ap (λ (b : ℕ). take i xs ++ b ∷ drop (i + 1) xs) (eqb-true (get_or xs i 0) 32 first.1)

pub space_start : (xs : List ℕ) (i : ℕ) → position is_space xs ≡ Some i → take (i + 1) xs ≡ take i xs ++ 32 ∷ []
space_start xs i at =
    let first = position-Some is_space xs i 0 at in
    take_more xs i 0 first.0 ∙ ap (λ (b : ℕ). take i xs ++ b ∷ []) (eqb-true (get_or xs i 0) 32 first.1)

pub space_rest : (xs : List ℕ) (i : ℕ) → position is_space xs ≡ Some i → xs ≡ take i xs ++ 32 ∷ take (length xs - (i + 1)) (drop (i + 1) xs)
space_rest xs i at =
    space_splits xs i at ∙ ap (λ (t : List ℕ). take i xs ++ 32 ∷ t) (sym (take_all (length xs - (i + 1)) (drop (i + 1) xs) (omega (arith, length-drop (i + 1) xs))))

none_within : (a n : ℕ) → cond (nat_lt a n) (Some a) None ≡ None → n ≤ a
none_within a n none = grind (arith, nat_tests)

far : (b : ℕ) (ys : List ℕ) (t : Bool) → is_space b ≡ t → length (b ∷ ys) ≤ position_or_len is_space (b ∷ ys)
    → (length ys ≤ position_or_len is_space ys → AllPass is_no_space ys) → AllPass is_no_space (b ∷ ys)
far b ys true e over rest = absurd (omega (arith, over, ap (λ (u : Bool). cond (not u) (1 + position_or_len is_space ys) 0) e))
far b ys false e over rest =
    All-cons (λ (v : ℕ). is_no_space v ≡ true) b ys (ap not e)
    (rest (omega (arith, over, ap (λ (u : Bool). cond (not u) (1 + position_or_len is_space ys) 0) e)))

none_over : (ys : List ℕ) → length ys ≤ position_or_len is_space ys → AllPass is_no_space ys
none_over [] over = All-nil (λ (b : ℕ). is_no_space b ≡ true)
none_over (b ∷ ys) over = far b ys (is_space b) refl over (none_over ys)

pub space_missing : (xs : List ℕ) → position is_space xs ≡ None → AllPass is_no_space xs
space_missing xs none = none_over xs (none_within (position_or_len is_space xs) (length xs) none)
