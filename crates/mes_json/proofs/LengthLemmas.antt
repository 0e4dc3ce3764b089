-- Lengths of canonical texts: of n + 1 items or members by that of n, and of n by that of all.
use Rattle.std.proofs.Common.{◌≡◌, ℕ, zero, suc, ◌+◌, ◌-◌, ◌<◌, ◌≤◌, List, [], ◌∷◌, ◌++◌, Vec, Global, length, take, drop, get_or, ap, sym, ◌∙◌, add-one, take-suc, subst, arith}
use native.Mathlib.Numerals.{unary_clauses}
use Rattle.std.proofs.Math.Seq.{take-length}
use Rattle.std.proofs.lemmas.List.{append-nil, length-append, length-take-le}
use Rattle.std.specs.List.{AllByRecursion}
use Rattle.mes_json.specs.Canonical.{canonical, escaped, escaped_text, IsKept, canonical_items, more_items, canonical_members, more_members}
use Rattle.mes_json.specs.View.{view, items_view, members_view}
use Rattle.mes_json.specs.Writable.{member_text}
use Rattle.mes_json.specs.declared.value.Json.{Json}
use Rattle.mes_json.specs.declared.value.Json.TheVariants.{Map}
use Rattle.mes_json.proofs.TakenLemmas.{rest_is}
use Rattle.mes_json.proofs.EscapedLemmas.{escaped-append}
use Rattle.mes_json.proofs.RunOfBytesLemmas.{kept_text, kept_further}
use Rattle.mes_json.proofs.GrownLemmas.{items_grown, members_grown}
use Rattle.mes_json.proofs.ViewLemmas.{is_object}
use Rattle.mes_json.proofs.WriteLemmas.{more_last, more_members_last}

escaped_last : (s : List ℕ) (c : ℕ) → length (escaped_text (s ++ c ∷ [])) ≡ length (escaped_text s) + length (escaped c)
escaped_last s c = ap (λ (b : List ℕ). length b) (escaped-append s (c ∷ [])) ∙ length-append (escaped_text s) (escaped c ++ []) ∙ ap (λ (b : List ℕ). length (escaped_text s) + length b) (append-nil (escaped c))

pub escaped_grows : (s b : List ℕ) (n : ℕ) → b ≡ s → n < length b
    → length (escaped_text (take (n + 1) s)) ≡ length (escaped_text (take n s)) + length (escaped (get_or b n 0))
escaped_grows s b n is inside =
    ap (λ (m : ℕ). length (escaped_text (take m s))) (add-one n)
    ∙ ap (λ (x : List ℕ). length (escaped_text (take (suc n) x))) (sym is)
    ∙ ap (λ (x : List ℕ). length (escaped_text x)) (take-suc b n 0 inside)
    ∙ escaped_last (take n b) (get_or b n 0)
    ∙ ap (λ (x : List ℕ). length (escaped_text (take n x)) + length (escaped (get_or b n 0))) is

pub kept_grows : (s b : List ℕ) (place n : ℕ) → b ≡ s → place ≤ length b → n ≤ length (take (length b - place) (drop place b))
    → AllByRecursion IsKept (take n (take (length b - place) (drop place b)))
    → length (escaped_text (take (place + n) s)) ≡ length (escaped_text (take place s)) + n
kept_grows s b place n is inside few kept =
    let room : n ≤ length (drop place b) = subst (λ (x : List ℕ). n ≤ length x) (rest_is b place inside) few in
    ap (λ (x : List ℕ). length (escaped_text (take (place + n) x))) (sym is)
    ∙ ap (λ (x : List ℕ). length x) (kept_further b place n inside kept)
    ∙ length-append (escaped_text (take place b)) (take n (drop place b))
    ∙ ap (λ (k : ℕ). length (escaped_text (take place b)) + k) (length-take-le n (drop place b) room)
    ∙ ap (λ (x : List ℕ). length (escaped_text (take place x)) + n) is

pub escaped_front : (s : List ℕ) (n : ℕ) → length (escaped_text (take n s)) ≤ length (escaped_text s)
escaped_front s zero = omega arith
escaped_front [] (suc n) = omega arith
escaped_front (c ∷ s) (suc n) =
    omega (arith, escaped_front s n, length-append (escaped c) (escaped_text (take n s)), length-append (escaped c) (escaped_text s))

pub kept_front : (b : List ℕ) (n : ℕ) → n ≤ length b → AllByRecursion IsKept (take n b) → length (escaped_text (take n b)) ≡ n
kept_front b n inside kept = ap (λ (x : List ℕ). length x) (kept_text (take n b) kept) ∙ length-take-le n b inside

pub front_within : (s b : List ℕ) (n : ℕ) → b ≡ s → length (escaped_text (take n b)) ≤ length (escaped_text s)
front_within s b n is = subst (λ (x : List ℕ). length (escaped_text (take n b)) ≤ length (escaped_text x)) is (escaped_front b n)

pub items_grow : (xs : List Json) (x : Json) (n : ℕ) → n < length xs → x ≡ get_or xs n x
    → length (more_items (items_view (take (n + 1) xs))) ≡ length (more_items (items_view (take n xs))) + 1 + length (canonical (view x))
items_grow xs x n inside is =
    rw (items_grown xs x n inside is, more_last (take n xs) x, length-append) (omega arith)

pub items_front : (xs : List Json) (n : ℕ) → length (more_items (items_view (take n xs))) ≤ length (more_items (items_view xs))
items_front xs zero = omega arith
items_front [] (suc n) = omega arith
items_front (x ∷ xs) (suc n) =
    omega (arith, items_front xs n, length-append (canonical (view x)) (more_items (items_view (take n xs))), length-append (canonical (view x)) (more_items (items_view xs)))

pub members_grow : (xs : List (List ℕ × Json)) (x : List ℕ × Json) (n : ℕ) → n < length xs → x ≡ get_or xs n x
    → length (more_members (members_view (take (n + 1) xs))) ≡ length (more_members (members_view (take n xs))) + 1 + length (member_text x.0 (view x.1))
members_grow xs x n inside is =
    rw (members_grown xs x n inside is, more_members_last (take n xs) x, length-append) (omega arith)

pub members_front : (xs : List (List ℕ × Json)) (n : ℕ) → length (more_members (members_view (take n xs))) ≤ length (more_members (members_view xs))
members_front xs zero = omega arith
members_front [] (suc n) = omega arith
members_front (x ∷ xs) (suc n) =
    omega (arith, members_front xs n, length-append (member_text x.0 (view x.1)) (more_members (members_view (take n xs))), length-append (member_text x.0 (view x.1)) (more_members (members_view xs)))

pub items_split : (xs : List Json) (x : Json) → 1 ≤ length xs → x ≡ get_or xs 0 x
    → length (canonical_items (items_view xs)) ≡ length (canonical (view x)) + length (more_items (items_view (take (length xs - 1) (drop 1 xs))))
items_split [] x some is = omega (arith, some)
items_split (y ∷ ys) x some is = simp unary_clauses (
    length-append (canonical (view y)) (more_items (items_view ys))
    ∙ ap (λ (z : Json). length (canonical (view z)) + length (more_items (items_view ys))) (sym is)
    ∙ ap (λ (zs : List Json). length (canonical (view x)) + length (more_items (items_view zs))) (sym (take-length ys)))

pub members_split : (xs : List (List ℕ × Json)) (x y : List ℕ × Json) → 1 ≤ length xs
    → length (canonical_members (members_view xs)) ≡ length (member_text (get_or xs 0 x).0 (view (get_or xs 0 y).1)) + length (more_members (members_view (take (length xs - 1) (drop 1 xs))))
members_split [] x y some = omega (arith, some)
members_split (z ∷ zs) x y some = simp unary_clauses (
    length-append (member_text z.0 (view z.1)) (more_members (members_view zs))
    ∙ ap (λ (ws : List (List ℕ × Json)). length (member_text z.0 (view z.1)) + length (more_members (members_view ws))) (sym (take-length zs)))

pub object_length : (json : Json) (ms : Vec (List ℕ × Json) Global) → json ≡ Map ms
    → length (canonical (view json)) ≡ length (canonical_members (members_view ms.items)) + 2
object_length json ms is =
    ap (λ t. length (canonical t)) (is_object json ms is)
    ∙ ap (λ (n : ℕ). suc n) (length-append (canonical_members (members_view ms.items)) (125 ∷ []))
    ∙ omega arith
