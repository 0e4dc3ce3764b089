-- Equal lists of values, index by index: equal lengths, and equal trees at each index.
use Rattle.std.proofs.Common.{◌≡◌, ℕ, zero, suc, ◌+◌, ◌<◌, Bool, true, false, not, IsTrue, ◌↔◌, List, [], ◌∷◌, ◌++◌, length, take, get_or, refl, ap, sym, ◌∙◌, subst, arith}
use Rattle.std.specs.Str.{bytes_eq}
use Rattle.std.proofs.lemmas.Slice.Eq.{bytes_eq-Decides}
use Rattle.mes_json.specs.Tree.{Tree, Items, Members}
use Rattle.mes_json.specs.Tree.Tree.{null, boolean, number, string, array, object}
use Rattle.mes_json.specs.Tree.Items.{no_items, item}
use Rattle.mes_json.specs.Tree.Members.{no_members, member}
use Rattle.mes_json.specs.View.{view, items_view, members_view}
use Rattle.mes_json.specs.declared.value.Json.{Json}
use Rattle.mes_json.proofs.GrownLemmas.{items_grown, one_longer}

pub not_true : IsTrue false → ⊥
not_true h = absurd (cc h)

pub denied : {P : Type 0} → (P → ⊥) → IsTrue false ↔ P
denied n = (λ h. absurd (not_true h), λ p. absurd (n p))

pub holds : {P : Type 0} (x : Bool) → (IsTrue x ↔ P) → x ≡ true → P
holds x h e = h.0 e

pub fails : {P : Type 0} (x : Bool) → (IsTrue x ↔ P) → x ≡ false → P → ⊥
fails x h e p = not_true (subst IsTrue e (h.1 p))

abbrev count : Items → ℕ
count no_items = 0
count (item t ts) = suc (count ts)

count_view : (xs : List Json) → count (items_view xs) ≡ length xs
count_view [] = refl
count_view (x ∷ xs) = ap suc (count_view xs)

pub as_many_items : (xs ys : List Json) → items_view xs ≡ items_view ys → length xs ≡ length ys
as_many_items xs ys e = sym (count_view xs) ∙ ap count e ∙ count_view ys

abbrev item_at : Items → ℕ → Tree
item_at no_items n = null
item_at (item t ts) zero = t
item_at (item t ts) (suc n) = item_at ts n

item_at_view : (xs : List Json) (n : ℕ) (x : Json) → n < length xs → item_at (items_view xs) n ≡ view (get_or xs n x)
item_at_view [] n x inside = absurd (omega arith)
item_at_view (y ∷ xs) zero x inside = refl
item_at_view (y ∷ xs) (suc n) x inside = item_at_view xs n x (omega arith)

pub same_item : (xs ys : List Json) (n : ℕ) (x y : Json) → n < length xs → n < length ys → x ≡ get_or xs n x → y ≡ get_or ys n y
    → items_view xs ≡ items_view ys → view x ≡ view y
same_item xs ys n x y in_xs in_ys is_x is_y e =
    ap view is_x ∙ sym (item_at_view xs n x in_xs) ∙ ap (λ (ts : Items). item_at ts n) e ∙ item_at_view ys n y in_ys ∙ ap view (sym is_y)

abbrev then_item : Items → Tree → Items
then_item no_items u = item u no_items
then_item (item t ts) u = item t (then_item ts u)

then_item_view : (xs : List Json) (x : Json) → items_view (xs ++ x ∷ []) ≡ then_item (items_view xs) (view x)
then_item_view [] x = refl
then_item_view (y ∷ xs) x = ap (item (view y)) (then_item_view xs x)

pub one_more_item : (xs ys : List Json) (n : ℕ) (x y : Json) → n < length xs → n < length ys → x ≡ get_or xs n x → y ≡ get_or ys n y
    → items_view (take n xs) ≡ items_view (take n ys) → view x ≡ view y → items_view (take (n + 1) xs) ≡ items_view (take (n + 1) ys)
one_more_item xs ys n x y in_xs in_ys is_x is_y e f =
    ap (λ (zs : List Json). items_view zs) (items_grown xs x n in_xs is_x) ∙ then_item_view (take n xs) x
    ∙ ap (λ (ts : Items). then_item ts (view x)) e ∙ ap (then_item (items_view (take n ys))) f
    ∙ sym (then_item_view (take n ys) y) ∙ ap (λ (zs : List Json). items_view zs) (sym (items_grown ys y n in_ys is_y))

abbrev members_count : Members → ℕ
members_count no_members = 0
members_count (member name t ms) = suc (members_count ms)

members_count_view : (xs : List (List ℕ × Json)) → members_count (members_view xs) ≡ length xs
members_count_view [] = refl
members_count_view (x ∷ xs) = ap suc (members_count_view xs)

pub as_many_members : (xs ys : List (List ℕ × Json)) → members_view xs ≡ members_view ys → length xs ≡ length ys
as_many_members xs ys e = sym (members_count_view xs) ∙ ap members_count e ∙ members_count_view ys

abbrev name_at : Members → ℕ → List ℕ
name_at no_members n = []
name_at (member name t ms) zero = name
name_at (member name t ms) (suc n) = name_at ms n

abbrev value_at : Members → ℕ → Tree
value_at no_members n = null
value_at (member name t ms) zero = t
value_at (member name t ms) (suc n) = value_at ms n

name_at_view : (xs : List (List ℕ × Json)) (n : ℕ) (x : List ℕ × Json) → n < length xs → name_at (members_view xs) n ≡ (get_or xs n x).0
name_at_view [] n x inside = absurd (omega arith)
name_at_view (y ∷ xs) zero x inside = refl
name_at_view (y ∷ xs) (suc n) x inside = name_at_view xs n x (omega arith)

value_at_view : (xs : List (List ℕ × Json)) (n : ℕ) (x : List ℕ × Json) → n < length xs → value_at (members_view xs) n ≡ view (get_or xs n x).1
value_at_view [] n x inside = absurd (omega arith)
value_at_view (y ∷ xs) zero x inside = refl
value_at_view (y ∷ xs) (suc n) x inside = value_at_view xs n x (omega arith)

pub same_name : (xs ys : List (List ℕ × Json)) (n : ℕ) (x y : List ℕ × Json) → n < length xs → n < length ys → members_view xs ≡ members_view ys
    → (get_or xs n x).0 ≡ (get_or ys n y).0
same_name xs ys n x y in_xs in_ys e = sym (name_at_view xs n x in_xs) ∙ ap (λ (ms : Members). name_at ms n) e ∙ name_at_view ys n y in_ys

pub same_value : (xs ys : List (List ℕ × Json)) (n : ℕ) (x y : List ℕ × Json) → n < length xs → n < length ys → members_view xs ≡ members_view ys
    → view (get_or xs n x).1 ≡ view (get_or ys n y).1
same_value xs ys n x y in_xs in_ys e = sym (value_at_view xs n x in_xs) ∙ ap (λ (ms : Members). value_at ms n) e ∙ value_at_view ys n y in_ys

abbrev then_member : Members → List ℕ → Tree → Members
then_member no_members k u = member k u no_members
then_member (member name t ms) k u = member name t (then_member ms k u)

then_member_view : (xs : List (List ℕ × Json)) (x : List ℕ × Json) → members_view (xs ++ x ∷ []) ≡ then_member (members_view xs) x.0 (view x.1)
then_member_view [] x = refl
then_member_view (y ∷ xs) x = ap (member y.0 (view y.1)) (then_member_view xs x)

-- one more pair of members with equal names and equal values; each list has its own default element
pub one_more_member : (xs ys : List (List ℕ × Json)) (n : ℕ) (x y u v : List ℕ × Json) → n < length xs → n < length ys
    → members_view (take n xs) ≡ members_view (take n ys) → (get_or xs n x).0 ≡ (get_or ys n y).0 → view (get_or xs n u).1 ≡ view (get_or ys n v).1
    → members_view (take (n + 1) xs) ≡ members_view (take (n + 1) ys)
one_more_member xs ys n x y u v in_xs in_ys e k f =
    let values : view (get_or xs n x).1 ≡ view (get_or ys n y).1 =
    sym (value_at_view xs n x in_xs) ∙ value_at_view xs n u in_xs ∙ f ∙ sym (value_at_view ys n v in_ys) ∙ value_at_view ys n y in_ys in
    ap (λ (zs : List (List ℕ × Json)). members_view zs) (one_longer xs x n in_xs) ∙ then_member_view (take n xs) (get_or xs n x)
    ∙ ap (λ (ms : Members). then_member ms (get_or xs n x).0 (view (get_or xs n x).1)) e
    ∙ ap (λ (b : List ℕ). then_member (members_view (take n ys)) b (view (get_or xs n x).1)) k
    ∙ ap (then_member (members_view (take n ys)) (get_or ys n y).0) values
    ∙ sym (then_member_view (take n ys) (get_or ys n y)) ∙ ap (λ (zs : List (List ℕ × Json)). members_view zs) (sym (one_longer ys y n in_ys))

abbrev members_in : Tree → Members
members_in (object ms) = ms
members_in null = no_members
members_in (boolean b) = no_members
members_in (number n) = no_members
members_in (string s) = no_members
members_in (array ts) = no_members

pub same_object : (r : Bool) (a b : Members) (s o : Tree) → s ≡ object a → o ≡ object b → (IsTrue r ↔ (a ≡ b)) → IsTrue r ↔ (s ≡ o)
same_object r a b s o is_s is_o h = (λ t. is_s ∙ ap object (h.0 t) ∙ sym is_o, λ e. h.1 (ap members_in (sym is_s ∙ e ∙ is_o)))

is_true : (x : Bool) → not x ≡ false → x ≡ true
is_true true e = refl
is_true false e = absurd (cc)

pub names_differ : (r : Bool) (a b : List ℕ) → r ≡ not (bytes_eq a b) → r ≡ true → a ≡ b → ⊥
names_differ r a b is t e = not_true (ap not (sym ((bytes_eq-Decides a b).1 e)) ∙ sym is ∙ t)

pub names_same : (r : Bool) (a b : List ℕ) → r ≡ not (bytes_eq a b) → r ≡ false → a ≡ b
names_same r a b is f = (bytes_eq-Decides a b).0 (is_true (bytes_eq a b) (sym is ∙ f))
