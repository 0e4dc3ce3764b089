-- Lemmas: the first fault of a list is that of its first invalid item.
use Rattle.std.proofs.Common.{◌≡◌, ◌⊎◌, inl, inr, ◌↔◌, ℕ, suc, ◌+◌, Bool, true, false, List, [], ◌∷◌, ◌++◌, length, refl, sym, ◌∙◌, ap, subst, cond, arith}
use Rattle.std.specs.Prelude.{All, Err}
use Rattle.std.proofs.lemmas.List.Elements.{All-nil, All-cons, All-head, All-tail}
use Rattle.mes_json.specs.Tree.{Tree, Items}
use Rattle.mes_json.specs.Tree.Tree.{null, boolean, number, string, array, object}
use Rattle.mes_json.specs.Tree.Items.{no_items, item}
use Rattle.mes_json.specs.View.{items_of}
use Rattle.mes_model_schema.specs.Paths.{Place}
use Rattle.mes_model_schema.specs.Paths.Place.{index}
use Rattle.mes_model_schema.specs.Kinds.{Kind, Breaks, Lawful}
use Rattle.mes_model_schema.specs.Lists.{read_each, items_at, list_of}
use Rattle.mes_model_schema.specs.Rows.{many, message}
use Rattle.mes_model_schema.specs.EitherLists.{is_array, either_list}
use Rattle.mes_model_schema.specs.FieldLaws.{after, broken, breaks_first}
use Rattle.mes_model_schema.specs.KindLaws.{items_are}
use Rattle.mes_model_schema.specs.FirstFaults.{IsRead, IsArray, MessageBreaks, ListBreaks, EitherListBreaks}
use Rattle.mes_model_schema.proofs.ValueFaults.{array_told}
use Rattle.mes_model_schema.proofs.RowFaults.{kept_fault, many_breaks, message_breaks}
use Rattle.mes_model_schema.specs.declared.field.FieldFault.{FieldFault}

all_items : (ts : Items) → (us : List Tree) × (ts ≡ items_of us)
all_items no_items = ([], refl)
all_items (item t ts) = let more = all_items ts in (t ∷ more.0, ap (λ (us : Items). item t us) more.1)

-- the first fault of items, if the first item has index i in the path
abbrev BreaksFrom : {V : Type 0} → Kind V → List Place → ℕ → Items → FieldFault → Type 0
BreaksFrom {V} k at i ts f =
    (front : List Tree) × (t : Tree) × (following : List Tree)
    × (ts ≡ items_of (front ++ t ∷ following))
    × All (IsRead k) front
    × Breaks k (at ++ index (i + length front) ∷ []) t f

each_breaks : {V : Type 0} {steps : ℕ} (k : Kind V) → Lawful k steps → (at : List Place) (i : ℕ) (ts : Items) (f : FieldFault)
    → read_each k at i ts ≡ Err f → BreaksFrom k at i ts f
each_breaks k lawful at i no_items f e = absurd (cc)
each_breaks {V} k lawful at i (item t ts) f e = elim (broken (k.read (at ++ index i ∷ []) t) _ f e) [
  | inl h ↦
      let more = all_items ts in
      let here : i ≡ i + 0 = omega arith in
      ([], t, more.0, ap (λ (us : Items). item t us) more.1, All-nil (IsRead k), subst (λ (j : ℕ). Breaks k (at ++ index j ∷ []) t f) here h)
  | inr h ↦
      let later = each_breaks k lawful at (i + 1) ts f ((kept_fault (read_each k at (i + 1) ts) _ f).0 h.2) in
      let there : (i + 1) + length later.0 ≡ i + suc (length later.0) = omega arith in (
        t ∷ later.0,
        later.1,
        later.2,
        ap (λ (us : Items). item t us) later.3,
        All-cons (IsRead k) t later.0 (h.0, lawful.sound (at ++ index i ∷ []) t h.0 h.1) later.4,
        subst (λ (j : ℕ). Breaks k (at ++ index j ∷ []) later.1 f) there later.5,
      )
]

else_each_breaks : {V : Type 0} {steps : ℕ} (k : Kind V) → Lawful k steps → (at : List Place) (i : ℕ) (front : List Tree) (t : Tree) (following : List Tree)
    (f : FieldFault) → All (IsRead k) front → Breaks k (at ++ index (i + length front) ∷ []) t f
    → read_each k at i (items_of (front ++ t ∷ following)) ≡ Err f
else_each_breaks k lawful at i [] t following f reads breaks =
    let here : i + 0 ≡ i = omega arith in
    breaks_first (k.read (at ++ index i ∷ []) t) _ f (subst (λ (j : ℕ). Breaks k (at ++ index j ∷ []) t f) here breaks)
else_each_breaks {V} k lawful at i (u ∷ front) t following f reads breaks =
    let first = All-head (IsRead k) u front reads in
    let there : i + suc (length front) ≡ (i + 1) + length front = omega arith in
    let later = else_each_breaks k lawful at (i + 1) front t following f (All-tail (IsRead k) u front reads) (subst (λ (j : ℕ). Breaks k (at ++ index j ∷ []) t f) there breaks) in
    after _ _ first.0 (lawful.complete (at ++ index i ∷ []) u first.0 first.1) ∙ breaks_first (read_each k at (i + 1) (items_of (front ++ t ∷ following))) _ f later

pub list_breaks : {V : Type 0} {steps : ℕ} (k : Kind V) → Lawful k steps → (at : List Place) (t : Tree) (f : FieldFault)
    → Breaks (list_of k) at t f ↔ ListBreaks k at t f
list_breaks {V} k lawful at t f = (to, from) where
  to : (list_of k).read at t ≡ Err f → ListBreaks k at t f
  to e = elim (broken (items_at at t) _ f e) [
    | inl h ↦ inl ((array_told at t f).0 h)
    | inr h ↦
        let one = each_breaks k lawful at 0 h.0 f h.2 in
        let here : 0 + length one.0 ≡ length one.0 = omega arith in
        inr (
          h.0,
          items_are at t h.0 h.1,
          (one.0, one.1, one.2, one.3, one.4, subst (λ (j : ℕ). Breaks k (at ++ index j ∷ []) one.1 f) here one.5),
        )
  ]

  from : ListBreaks k at t f → (list_of k).read at t ≡ Err f
  from (inl h) = breaks_first (items_at at t) _ f ((array_told at t f).1 h)
  from (inr h) =
      let one = h.2 in
      let here : length one.0 ≡ 0 + length one.0 = omega arith in
      rw (h.1) (rw (one.3) (else_each_breaks k lawful at 0 one.0 one.1 one.2 f one.4 (subst (λ (j : ℕ). Breaks k (at ++ index j ∷ []) one.1 f) here one.5)))

array_or_not : (t : Tree) → (IsArray t × (is_array t ≡ true)) ⊎ ((¬ IsArray t) × (is_array t ≡ false))
array_or_not null = inr ((λ a. let bad = a.1 in absurd (cc)), refl)
array_or_not (boolean x) = inr ((λ a. let bad = a.1 in absurd (cc)), refl)
array_or_not (number n) = inr ((λ a. let bad = a.1 in absurd (cc)), refl)
array_or_not (string s) = inr ((λ a. let bad = a.1 in absurd (cc)), refl)
array_or_not (array ts) = inl ((ts, refl), refl)
array_or_not (object ms) = inr ((λ a. let bad = a.1 in absurd (cc)), refl)

pub either_list_breaks : {V : Type 0} {steps : ℕ} (n : List ℕ) (k : Kind V) → Lawful k steps → (at : List Place) (t : Tree) (f : FieldFault)
    → Breaks (either_list n k) at t f ↔ EitherListBreaks n k at t f
either_list_breaks {V} n k lawful at t f = (to, from) where
  as_array : ListBreaks k at t f → IsArray t → EitherListBreaks n k at t f
  as_array (inl h) is = absurd (h.0 is)
  as_array (inr h) is = inr (inl h)

  as_object : MessageBreaks (many n k) at t f → ¬ IsArray t → EitherListBreaks n k at t f
  as_object (inl h) other = inl (other, h.0, h.1)
  as_object (inr h) other = inr (inr (h.0, h.1, (many_breaks k n at h.0 f).0 h.2))

  Either : Bool → Type 0
  Either b = cond b ((list_of k).read at t) ((message (many n k)).read at t) ≡ Err f

  to : Either (is_array t) → EitherListBreaks n k at t f
  to e = elim (array_or_not t) [
    | inl h ↦ as_array ((list_breaks k lawful at t f).0 (subst Either h.1 e)) h.0
    | inr h ↦ as_object ((message_breaks (many n k) at t f).0 (subst Either h.1 e)) h.0
  ]

  in_object : ¬ IsArray t → MessageBreaks (many n k) at t f → Either (is_array t)
  in_object other h = elim (array_or_not t) [
    | inl p ↦ absurd (other p.0)
    | inr p ↦ subst Either (sym p.1) ((message_breaks (many n k) at t f).1 h)
  ]

  from : EitherListBreaks n k at t f → Either (is_array t)
  from (inl h) = in_object h.0 (inl (h.1, h.2))
  from (inr (inl h)) = subst Either (sym (ap is_array h.1)) ((list_breaks k lawful at t f).1 (inr h))
  from (inr (inr h)) = in_object (λ a. let both = sym h.1 ∙ a.1 in absurd (cc)) (inr (h.0, h.1, (many_breaks k n at h.0 f).1 h.2))
