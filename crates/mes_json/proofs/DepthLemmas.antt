-- The nesting depth of a list of items or members with one more item or member.
use Rattle.std.proofs.Common.{◌≡◌, ℕ, ◌+◌, ◌<◌, max, List, [], ◌∷◌, ◌++◌, length, take, get_or, ap, sym, ◌∙◌, add-one, take-suc, arith}
use Rattle.mes_json.specs.Tree.{depth, depth_of_items, depth_of_members}
use Rattle.mes_json.specs.View.{view, items_view, members_view}
use Rattle.mes_json.specs.declared.value.Json.{Json}

items_last : (xs : List Json) (x : Json) → depth_of_items (items_view (xs ++ x ∷ [])) ≡ max (depth_of_items (items_view xs)) (depth (view x))
items_last [] x = omega arith
items_last (y ∷ ys) x = rw (items_last ys x) (omega arith)

members_last : (xs : List (List ℕ × Json)) (x : List ℕ × Json) → depth_of_members (members_view (xs ++ x ∷ [])) ≡ max (depth_of_members (members_view xs)) (depth (view x.1))
members_last [] x = omega arith
members_last (y ∷ ys) x = rw (members_last ys x) (omega arith)

pub depth_item : (xs : List Json) (x : Json) (n : ℕ) → n < length xs → x ≡ get_or xs n x
    → depth_of_items (items_view (take (n + 1) xs)) ≡ max (depth_of_items (items_view (take n xs))) (depth (view x))
depth_item xs x n inside is =
    ap (λ (m : ℕ). depth_of_items (items_view (take m xs))) (add-one n) ∙ ap (λ (ys : List Json). depth_of_items (items_view ys)) (take-suc xs n x inside)
    ∙ items_last (take n xs) (get_or xs n x) ∙ ap (λ (y : Json). max (depth_of_items (items_view (take n xs))) (depth (view y))) (sym is)

pub depth_member : (xs : List (List ℕ × Json)) (x : List ℕ × Json) (n : ℕ) → n < length xs → x ≡ get_or xs n x
    → depth_of_members (members_view (take (n + 1) xs)) ≡ max (depth_of_members (members_view (take n xs))) (depth (view x.1))
depth_member xs x n inside is =
    ap (λ (m : ℕ). depth_of_members (members_view (take m xs))) (add-one n)
    ∙ ap (λ (ys : List (List ℕ × Json)). depth_of_members (members_view ys)) (take-suc xs n x inside)
    ∙ members_last (take n xs) (get_or xs n x)
    ∙ ap (λ (y : List ℕ × Json). max (depth_of_members (members_view (take n xs))) (depth (view y.1))) (sym is)
