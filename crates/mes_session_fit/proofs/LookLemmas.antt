-- Lemmas about searches: in several lists, and in values of the type RANGES or SET.
use Rattle.std.proofs.Common.{◌≡◌, ℕ, ◌+◌, ◌≤◌, ◌<◌, Bool, true, false, ◌||◌, ◌⊎◌, inl, inr, Option, Some, None, List, length, take, get_or, max, IfSome, refl, sym, ◌∙◌, ap, arith}
use Rattle.std.specs.List.{list_any, flat_map}
use Rattle.std.specs.Str.{bytes_eq}
use Rattle.std.proofs.lemmas.List.Folds.{list_any_at, list_any_more}
use Rattle.std.proofs.lemmas.Bool.Decides.{leb_tells}
use Rattle.std.proofs.lemmas.Slice.Eq.{bytes_eq-Decides}
use Rattle.mes_model.specs.Range.{Range}
use Rattle.mes_model.specs.Ranges.{Ranges}
use Rattle.mes_model.specs.Set.{Set}
use Rattle.mes_model.specs.ResourceValue.{ResourceValue}
use Rattle.mes_model.specs.ResourceValue.TheVariants.{Ranges as OfRanges, Set as OfSet}
use Rattle.mes_session_fit.specs.Fits.{Piece, in_ranges, in_items, piece_in}
use Rattle.mes_session_fit.specs.Fits.Piece.{point, item}
use Rattle.mes_session_fit.specs.Looking.{Meets, Lacks, Reaches, farther}
use Rattle.mes_session_fit.proofs.ListLemmas.{or-cases, any-flat_map}

or-left : (a b : Bool) → a ≡ true → (a || b) ≡ true
or-left a b e = rw e refl

or-right : (a b : Bool) → b ≡ true → (a || b) ≡ true
or-right true b e = refl
or-right false b e = e

or-none : (a b : Bool) → a ≡ false → b ≡ false → (a || b) ≡ false
or-none a b e f = rw (e, f) refl

-- ---- a search in several lists, list by list

module _ {X Y : Type 0} (p : Y → Bool) (f : X → List Y) (xs : List X) (i : ℕ) (x : X) (within : i < length xs) (is : x ≡ get_or xs i x) (ys : List Y) (part : ys ≡ f x) where
  passes : (b : Bool) → list_any p ys ≡ b → list_any p (f (get_or xs i x)) ≡ b
  passes b e = ap (λ (z : X). list_any p (f z)) (sym is) ∙ ap (list_any p) (sym part) ∙ e

  pub any-in : list_any p ys ≡ true → list_any p (flat_map f xs) ≡ true
  any-in e = any-flat_map p f xs ∙ list_any_at (λ (z : X). list_any p (f z)) xs i x within (passes true e)

  pub any-more : list_any p (flat_map f (take (i + 1) xs)) ≡ (list_any p (flat_map f (take i xs)) || list_any p ys)
  any-more =
      any-flat_map p f (take (i + 1) xs)
      ∙ list_any_more (λ (z : X). list_any p (f z)) xs i x within
      ∙ ap (λ (b : Bool). b || list_any p (f (get_or xs i x))) (sym (any-flat_map p f (take i xs)))
      ∙ ap (λ (b : Bool). list_any p (flat_map f (take i xs)) || b) (passes (list_any p ys) refl)

  pub none-more : list_any p (flat_map f (take i xs)) ≡ false → list_any p ys ≡ false → list_any p (flat_map f (take (i + 1) xs)) ≡ false
  none-more e g = any-more ∙ or-none _ _ e g

-- ---- a search in the items of a set, item by item

pub item-in : (ns : List (List ℕ)) (i : ℕ) (n : List ℕ) → i < length ns → n ≡ get_or ns i n → in_items n ns ≡ true
item-in ns i n within is = list_any_at (bytes_eq n) ns i n within ((bytes_eq-Decides n (get_or ns i n)).1 is)

pub items-more : (holds : List ℕ → Bool) (b : Bool) (ns : List (List ℕ)) (i : ℕ) (n : List ℕ) → i < length ns → n ≡ get_or ns i n
    → ((m : List ℕ) → in_items m (take i ns) ≡ true → holds m ≡ b) → holds n ≡ b → (m : List ℕ) → in_items m (take (i + 1) ns) ≡ true → holds m ≡ b
items-more holds b ns i n within is so_far here m e = elim (or-cases _ _ (sym (list_any_more (bytes_eq m) ns i n within) ∙ e)) [
  | inl before ↦ so_far m before
  | inr now ↦ (let same : m ≡ n = (bytes_eq-Decides m (get_or ns i n)).0 now ∙ sym is in ap holds same ∙ here)
]

-- ---- a search in two values of the same type

pub points-meet : (v w : ResourceValue) (a b : Ranges) (gs hs : List Range) (r : Bool) → v ≡ OfRanges a → w ≡ OfRanges b → gs ≡ a.range → hs ≡ b.range
    → Meets (λ x. in_ranges x gs) (λ x. in_ranges x hs) r → Meets (λ p. piece_in p v) (λ p. piece_in p w) r
points-meet v w a b gs hs true is_v is_w is_gs is_hs h =
    (point h.0, rw is_v (ap (in_ranges h.0) (sym is_gs) ∙ h.1), rw is_w (ap (in_ranges h.0) (sym is_hs) ∙ h.2))
points-meet v w a b gs hs false is_v is_w is_gs is_hs h = λ p e. elim p as (λ (q : Piece). piece_in q v ≡ true → piece_in q w ≡ false) [
  | point x ↦ λ has. rw is_w (ap (in_ranges x) (sym is_hs) ∙ h x (ap (in_ranges x) is_gs ∙ sym (ap (piece_in (point x)) is_v) ∙ has))
  | item n ↦ λ has. rw is_w refl
] e

pub items-meet : (v w : ResourceValue) (a b : Set) (ms ns : List (List ℕ)) (r : Bool) → v ≡ OfSet a → w ≡ OfSet b → ms ≡ a.item → ns ≡ b.item
    → Meets (λ n. in_items n ms) (λ n. in_items n ns) r → Meets (λ p. piece_in p v) (λ p. piece_in p w) r
items-meet v w a b ms ns true is_v is_w is_ms is_ns h =
    (item h.0, rw is_v (ap (in_items h.0) (sym is_ms) ∙ h.1), rw is_w (ap (in_items h.0) (sym is_ns) ∙ h.2))
items-meet v w a b ms ns false is_v is_w is_ms is_ns h = λ p e. elim p as (λ (q : Piece). piece_in q v ≡ true → piece_in q w ≡ false) [
  | point x ↦ λ has. rw is_w refl
  | item n ↦ λ has. rw is_w (ap (in_items n) (sym is_ns) ∙ h n (ap (in_items n) is_ms ∙ sym (ap (piece_in (item n)) is_v) ∙ has))
] e

pub points-lack : (q : Piece → Bool) (v : ResourceValue) (a : Ranges) (gs : List Range) (r : Bool) → v ≡ OfRanges a → gs ≡ a.range
    → Lacks (λ x. in_ranges x gs) (λ x. q (point x)) r → Lacks (λ p. piece_in p v) q r
points-lack q v a gs true is_v is_gs h = (point h.0, rw is_v (ap (in_ranges h.0) (sym is_gs) ∙ h.1), h.2)
points-lack q v a gs false is_v is_gs h = λ p e. elim p as (λ (p : Piece). piece_in p v ≡ true → q p ≡ true) [
  | point x ↦ λ has. h x (ap (in_ranges x) is_gs ∙ sym (ap (piece_in (point x)) is_v) ∙ has)
  | item n ↦ λ has. (let none : piece_in (item n) v ≡ false = rw is_v refl in absurd (cc))
] e

pub items-lack : (q : Piece → Bool) (v : ResourceValue) (a : Set) (ns : List (List ℕ)) (r : Bool) → v ≡ OfSet a → ns ≡ a.item
    → Lacks (λ n. in_items n ns) (λ n. q (item n)) r → Lacks (λ p. piece_in p v) q r
items-lack q v a ns true is_v is_ns h = (item h.0, rw is_v (ap (in_items h.0) (sym is_ns) ∙ h.1), h.2)
items-lack q v a ns false is_v is_ns h = λ p e. elim p as (λ (p : Piece). piece_in p v ≡ true → q p ≡ true) [
  | point x ↦ λ has. (let none : piece_in (point x) v ≡ false = rw is_v refl in absurd (cc))
  | item n ↦ λ has. h n (ap (in_items n) is_ns ∙ sym (ap (piece_in (item n)) is_v) ∙ has)
] e

-- ---- `Reaches` for two tests that are joined, and for one test that implies another

far-cases : (m n x : ℕ) → x ≤ max m n → (x ≤ m) ⊎ (x ≤ n)
far-cases m n x h = elim (leb_tells x m) [
  | inl at_most ↦ inl at_most.1
  | inr above ↦ inr (omega (arith, above.1))
]

pub reaches-both : (p q r : ℕ → Bool) (at : ℕ) (a b : Option ℕ) → ((x : ℕ) → r x ≡ (p x || q x)) → Reaches p at a → Reaches q at b → Reaches r at (farther a b)
reaches-both p q r at None None both h k = both at ∙ or-none _ _ h k
reaches-both p q r at None (Some n) both h k = (k.0, λ x from to. both x ∙ or-right _ _ (k.1 x from to))
reaches-both p q r at (Some m) None both h k = (h.0, λ x from to. both x ∙ or-left _ _ (h.1 x from to))
reaches-both p q r at (Some m) (Some n) both h k = (
  omega (arith, h.0),
  λ x from to. elim (far-cases m n x to) [
    | inl first ↦ both x ∙ or-left _ _ (h.1 x from first)
    | inr second ↦ both x ∙ or-right _ _ (k.1 x from second)
  ],
)

pub reaches-one : (p q : ℕ → Bool) (at : ℕ) (end : Option ℕ) (far : Bool) → (end ≡ None → far ≡ false) → far ≡ true → ((x : ℕ) → p x ≡ true → q x ≡ true) → Reaches p at end → Reaches q at end
reaches-one p q at None far none is all h = (let e : far ≡ false = none refl in absurd (cc))
reaches-one p q at (Some n) far none is all h = (h.0, λ x from to. all x (h.1 x from to))

pub reaches-some : (p : ℕ → Bool) (at : ℕ) (end : Option ℕ) → Reaches p at end → IfSome end (λ n. Reaches p at (Some n))
reaches-some p at None h = tt
reaches-some p at (Some n) h = h
