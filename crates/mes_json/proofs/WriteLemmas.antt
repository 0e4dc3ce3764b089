-- Writing appends to the old output; the output after one more item or member.
use Rattle.std.proofs.Common.{◌≡◌, ℕ, ◌+◌, ◌-◌, ◌<◌, ◌≤◌, List, [], ◌∷◌, ◌++◌, length, take, drop, get_or, refl, ap, sym, ◌∙◌, subst, append_assoc, arith, Result, Ok, Err, IfOk}
use Rattle.std.proofs.lemmas.List.{append-nil, take_all, take_rest}
use Rattle.std.specs.Str.{IsUtf8}
use Rattle.mes_json.specs.Tree.{Tree}
use Rattle.mes_json.specs.Canonical.{canonical, canonical_items, canonical_members, more_items, more_members}
use Rattle.mes_json.specs.View.{view, items_view, members_view}
use Rattle.mes_json.specs.Writable.{IsWritable, AreWritable, AreWritableMembers, Extends, member_text}
use Rattle.mes_json.specs.declared.value.Json.{Json}
use Rattle.mes_json.proofs.GrownLemmas.{items_grown, members_grown}

pub extended : (a b x : List ℕ) → b ≡ a ++ x → Extends a b
extended a b x e = record { rest = x; is = e }

pub extends_then : (a b c : List ℕ) → Extends a b → Extends b c → Extends a c
extends_then a b c h k = record { rest = h.rest ++ k.rest; is = k.is ∙ ap (λ (x : List ℕ). x ++ k.rest) h.is ∙ append_assoc a h.rest k.rest }

pub ok_map : {A E : Type 0} {P Q : A → Type 0} (r : Result A E) → ((x : A) → P x → Q x) → IfOk r P → IfOk r Q
ok_map (Ok x) f h = f x h
ok_map (Err e) f h = tt

one_comma : (start so_far text : List ℕ) → ((start ++ so_far) ++ 44 ∷ []) ++ text ≡ start ++ (so_far ++ 44 ∷ text)
one_comma start so_far text = simp append_assoc refl

pub between : (start inside : List ℕ) (first last : ℕ) (a b new : List ℕ) → a ≡ start ++ first ∷ [] → b ≡ a ++ inside → new ≡ b ++ last ∷ []
    → new ≡ start ++ first ∷ (inside ++ last ∷ [])
between start inside first last a b new e f g =
    g ∙ ap (λ (x : List ℕ). x ++ last ∷ []) (f ∙ ap (λ (x : List ℕ). x ++ inside) e) ∙ simp append_assoc refl

pub after_colon : (start name text a b new : List ℕ) → a ≡ start ++ name → b ≡ a ++ 58 ∷ [] → new ≡ b ++ text → new ≡ start ++ (name ++ 58 ∷ text)
after_colon start name text a b new e f g =
    g ∙ ap (λ (x : List ℕ). x ++ text) (f ∙ ap (λ (x : List ℕ). x ++ 58 ∷ []) e) ∙ simp append_assoc refl

pub more_last : (xs : List Json) (x : Json) → more_items (items_view (xs ++ x ∷ [])) ≡ more_items (items_view xs) ++ 44 ∷ canonical (view x)
more_last [] x = ap (λ (b : List ℕ). 44 ∷ b) (append-nil (canonical (view x)))
more_last (y ∷ ys) x =
    ap (λ (b : List ℕ). 44 ∷ (canonical (view y) ++ b)) (more_last ys x)
    ∙ ap (λ (b : List ℕ). 44 ∷ b) (sym (append_assoc (canonical (view y)) (more_items (items_view ys)) (44 ∷ canonical (view x))))

all_last : (xs : List Json) (x : Json) → AreWritable (items_view xs) → IsWritable (view x) → AreWritable (items_view (xs ++ x ∷ []))
all_last [] x are is = (is, tt)
all_last (y ∷ ys) x are is = (are.0, all_last ys x are.1 is)

pub item_written : (xs : List Json) (x : Json) (n : ℕ) (start out comma new : List ℕ) → n < length xs → x ≡ get_or xs n x
    → out ≡ start ++ more_items (items_view (take n xs)) → comma ≡ out ++ 44 ∷ [] → new ≡ comma ++ canonical (view x)
    → new ≡ start ++ more_items (items_view (take (n + 1) xs))
item_written xs x n start out comma new inside is so_far then next =
    next ∙ ap (λ (b : List ℕ). b ++ canonical (view x)) (then ∙ ap (λ (b : List ℕ). b ++ 44 ∷ []) so_far)
    ∙ one_comma start (more_items (items_view (take n xs))) (canonical (view x))
    ∙ ap (λ (b : List ℕ). start ++ b) (sym (more_last (take n xs) x))
    ∙ ap (λ (ys : List Json). start ++ more_items (items_view ys)) (sym (items_grown xs x n inside is))

pub item_writable : (xs : List Json) (x : Json) (n : ℕ) → n < length xs → x ≡ get_or xs n x
    → AreWritable (items_view (take n xs)) → IsWritable (view x) → AreWritable (items_view (take (n + 1) xs))
item_writable xs x n inside is are one =
    subst (λ (ys : List Json). AreWritable (items_view ys)) (sym (items_grown xs x n inside is)) (all_last (take n xs) x are one)

abbrev text_of : List ℕ × Json → List ℕ
text_of m = member_text m.0 (view m.1)

pub more_members_last : (xs : List (List ℕ × Json)) (x : List ℕ × Json) → more_members (members_view (xs ++ x ∷ [])) ≡ more_members (members_view xs) ++ 44 ∷ text_of x
more_members_last [] x = ap (λ (b : List ℕ). 44 ∷ b) (append-nil (text_of x))
more_members_last (y ∷ ys) x =
    ap (λ (b : List ℕ). 44 ∷ (text_of y ++ b)) (more_members_last ys x)
    ∙ ap (λ (b : List ℕ). 44 ∷ b) (sym (append_assoc (text_of y) (more_members (members_view ys)) (44 ∷ text_of x)))

all_members_last : (xs : List (List ℕ × Json)) (x : List ℕ × Json) → AreWritableMembers (members_view xs) → IsUtf8 x.0 × IsWritable (view x.1)
    → AreWritableMembers (members_view (xs ++ x ∷ []))
all_members_last [] x are is = (is.0, is.1, tt)
all_members_last (y ∷ ys) x are is = (are.0, are.1, all_members_last ys x are.2 is)

pub member_written : (xs : List (List ℕ × Json)) (x : List ℕ × Json) (n : ℕ) (start out comma new : List ℕ) → n < length xs → x ≡ get_or xs n x
    → out ≡ start ++ more_members (members_view (take n xs)) → comma ≡ out ++ 44 ∷ [] → new ≡ comma ++ member_text x.0 (view x.1)
    → new ≡ start ++ more_members (members_view (take (n + 1) xs))
member_written xs x n start out comma new inside is so_far then next =
    next ∙ ap (λ (b : List ℕ). b ++ text_of x) (then ∙ ap (λ (b : List ℕ). b ++ 44 ∷ []) so_far)
    ∙ one_comma start (more_members (members_view (take n xs))) (text_of x)
    ∙ ap (λ (b : List ℕ). start ++ b) (sym (more_members_last (take n xs) x))
    ∙ ap (λ (ys : List (List ℕ × Json)). start ++ more_members (members_view ys)) (sym (members_grown xs x n inside is))

pub member_writable : (xs : List (List ℕ × Json)) (x : List ℕ × Json) (n : ℕ) → n < length xs → x ≡ get_or xs n x
    → AreWritableMembers (members_view (take n xs)) → IsUtf8 x.0 × IsWritable (view x.1) → AreWritableMembers (members_view (take (n + 1) xs))
member_writable xs x n inside is are one =
    subst (λ (ys : List (List ℕ × Json)). AreWritableMembers (members_view ys)) (sym (members_grown xs x n inside is)) (all_members_last (take n xs) x are one)

others : {A : Type 0} (xs : List A) (n : ℕ) → length (take (length xs - 1) (drop 1 xs)) ≤ n → take n (take (length xs - 1) (drop 1 xs)) ≡ drop 1 xs
others xs n all = take_all n _ all ∙ take_rest xs 1

pub items_written : (xs : List Json) (x : Json) (n : ℕ) (start first new : List ℕ) → 1 ≤ length xs → x ≡ get_or xs 0 x
    → length (take (length xs - 1) (drop 1 xs)) ≤ n → first ≡ start ++ canonical (view x)
    → new ≡ first ++ more_items (items_view (take n (take (length xs - 1) (drop 1 xs)))) → new ≡ start ++ canonical_items (items_view xs)
items_written [] x n start first new some is all e f = absurd (omega arith)
items_written (y ∷ ys) x n start first new some is all e f =
    f ∙ ap (λ (zs : List Json). first ++ more_items (items_view zs)) (others (y ∷ ys) n all)
    ∙ ap (λ (b : List ℕ). b ++ more_items (items_view ys)) e ∙ append_assoc start (canonical (view x)) (more_items (items_view ys))
    ∙ ap (λ (z : Json). start ++ (canonical (view z) ++ more_items (items_view ys))) is

pub items_writable : (xs : List Json) (x : Json) (n : ℕ) → x ≡ get_or xs 0 x → length (take (length xs - 1) (drop 1 xs)) ≤ n
    → IsWritable (view x) → AreWritable (items_view (take n (take (length xs - 1) (drop 1 xs)))) → AreWritable (items_view xs)
items_writable [] x n is all one are = tt
items_writable (y ∷ ys) x n is all one are =
    (subst (λ (z : Json). IsWritable (view z)) is one, subst (λ (zs : List Json). AreWritable (items_view zs)) (others (y ∷ ys) n all) are)

-- a and b are the default elements that `get_or` returns beyond the end of xs
pub members_written : (xs : List (List ℕ × Json)) (a b : List ℕ × Json) (n : ℕ) (start first new : List ℕ) → 1 ≤ length xs
    → length (take (length xs - 1) (drop 1 xs)) ≤ n → first ≡ start ++ member_text (get_or xs 0 a).0 (view (get_or xs 0 b).1)
    → new ≡ first ++ more_members (members_view (take n (take (length xs - 1) (drop 1 xs)))) → new ≡ start ++ canonical_members (members_view xs)
members_written [] a b n start first new some all e f = absurd (omega arith)
members_written (y ∷ ys) a b n start first new some all e f =
    f ∙ ap (λ (zs : List (List ℕ × Json)). first ++ more_members (members_view zs)) (others (y ∷ ys) n all)
    ∙ ap (λ (t : List ℕ). t ++ more_members (members_view ys)) e ∙ append_assoc start (text_of y) (more_members (members_view ys))

pub members_writable : (xs : List (List ℕ × Json)) (a b : List ℕ × Json) (n : ℕ) → length (take (length xs - 1) (drop 1 xs)) ≤ n
    → IsUtf8 (get_or xs 0 a).0 × IsWritable (view (get_or xs 0 b).1) → AreWritableMembers (members_view (take n (take (length xs - 1) (drop 1 xs))))
    → AreWritableMembers (members_view xs)
members_writable [] a b n all one are = tt
members_writable (y ∷ ys) a b n all one are =
    (one.0, one.1, subst (λ (zs : List (List ℕ × Json)). AreWritableMembers (members_view zs)) (others (y ∷ ys) n all) are)

pub tree_written : {A E : Type 0} (r : Result A E) (json : Json) (t : Tree) (start new : List ℕ) → view json ≡ t
    → IfOk r (λ _. new ≡ start ++ canonical t) → IfOk r (λ _. new ≡ start ++ canonical (view json))
tree_written r json t start new is h = subst (λ (u : Tree). IfOk r (λ _. new ≡ start ++ canonical u)) (sym is) h

pub tree_writable : {A E : Type 0} (r : Result A E) (json : Json) (t : Tree) → view json ≡ t → IfOk r (λ _. IsWritable t) → IfOk r (λ _. IsWritable (view json))
tree_writable r json t is h = subst (λ (u : Tree). IfOk r (λ _. IsWritable u)) (sym is) h

pub always : {A E : Type 0} {P : Type 0} (r : Result A E) → P → IfOk r (λ _. P)
always (Ok x) p = p
always (Err e) p = tt

pub extends_itself : (a : List ℕ) → Extends a a
extends_itself a = extended a a [] (sym (append-nil a))

pub no_items_written : (xs : List Json) (start : List ℕ) → length xs < 1 → start ≡ start ++ canonical_items (items_view xs)
no_items_written [] start few = sym (append-nil start)
no_items_written (x ∷ xs) start few = absurd (omega arith)

pub no_items_writable : (xs : List Json) → length xs < 1 → AreWritable (items_view xs)
no_items_writable [] few = tt
no_items_writable (x ∷ xs) few = absurd (omega arith)

pub no_members_written : (xs : List (List ℕ × Json)) (start : List ℕ) → length xs < 1 → start ≡ start ++ canonical_members (members_view xs)
no_members_written [] start few = sym (append-nil start)
no_members_written (x ∷ xs) start few = absurd (omega arith)

pub no_members_writable : (xs : List (List ℕ × Json)) → length xs < 1 → AreWritableMembers (members_view xs)
no_members_writable [] few = tt
no_members_writable (x ∷ xs) few = absurd (omega arith)
