-- The laws of strings, booleans, retained objects, unsupported values and lists: each tree has
-- exactly one value or exactly one first fault.
use Rattle.std.proofs.Common.{◌≡◌, inl, inr, ℕ, ◌+◌, ◌≤◌, Bool, true, List, [], ◌∷◌, ◌++◌, length, map, refl, sym, ◌∙◌, ap, arith, length-append}
use Rattle.std.specs.Prelude.{Result, Ok, Err}
use Rattle.mes_json.specs.Tree.{Tree, Items, Members}
use Rattle.mes_json.specs.Tree.Tree.{null, boolean, number, string, array, object}
use Rattle.mes_json.specs.Tree.Items.{no_items, item}
use Rattle.mes_json.specs.Tree.Members.{no_members}
use Rattle.mes_json.specs.Cursor.{as_bool, as_text, as_items, as_members}
use Rattle.mes_json.specs.View.{items_of}
use Rattle.mes_model_schema.specs.Paths.{Place}
use Rattle.mes_model_schema.specs.Paths.Place.{index}
use Rattle.mes_model_schema.specs.Kinds.{Kind, Lawful, Within, Reaches, Settled, Returns}
use Rattle.mes_model_schema.specs.Leaves.{text_of, number_of, boolean_of, members_at, texts, booleans, objects}
use Rattle.mes_model_schema.specs.Lists.{ReadsEach, read_each, items_at, list_of}
use Rattle.mes_model_schema.specs.Rows.{ReturnsEach}
use Rattle.mes_model_schema.specs.FieldLaws.{bound, broken, breaks_first}
use Rattle.mes_model_schema.specs.StepLaws.{expected_there, breaks_there}
use Rattle.mes_model_schema.specs.declared.field.FieldFault.{FieldFault}
use Rattle.mes_model_schema.specs.declared.field.FieldFaultKind.TheVariants.{WrongKind}

-- ---- each tree has exactly one value or exactly one fault

pub settled : {A : Type 0} {steps : ℕ} (k : Kind A) → Lawful k steps → (at : List Place) (t : Tree) → Settled k at t
settled {A} k lawful at t = by_read (k.read at t) refl where
  by_read : (r : Result A FieldFault) → k.read at t ≡ r → Settled k at t
  by_read (Ok v) e = inl (
    v,
    lawful.sound at t v e,
    (λ w reads. let h : Ok w ≡ Ok v = sym (lawful.complete at t w reads) ∙ e in cc),
    (λ f breaks. let h : Ok v ≡ Err f = sym e ∙ breaks in absurd (cc)),
  )
  by_read (Err f) e = inr (
    f,
    e,
    (λ g breaks. let h : Err g ≡ Err f = sym breaks ∙ e in cc),
    (λ w reads. let h : Ok w ≡ Err f = sym (lawful.complete at t w reads) ∙ e in absurd (cc)),
  )

-- ---- the laws of strings, booleans, retained objects and unsupported values

pub text_is : (at : List Place) (t : Tree) (s : List ℕ) → text_of at t ≡ Ok s → t ≡ string s
text_is at (string r) s e = cc
text_is at null s e = absurd (cc)
text_is at (boolean x) s e = absurd (cc)
text_is at (number n) s e = absurd (cc)
text_is at (array ts) s e = absurd (cc)
text_is at (object ms) s e = absurd (cc)

pub number_is : (at : List Place) (t : Tree) (s : List ℕ) → number_of at t ≡ Ok s → t ≡ number s
number_is at (number n) s e = cc
number_is at null s e = absurd (cc)
number_is at (boolean x) s e = absurd (cc)
number_is at (string r) s e = absurd (cc)
number_is at (array ts) s e = absurd (cc)
number_is at (object ms) s e = absurd (cc)

pub boolean_is : (at : List Place) (t : Tree) (x : Bool) → boolean_of at t ≡ Ok x → t ≡ boolean x
boolean_is at (boolean y) x e = cc
boolean_is at null x e = absurd (cc)
boolean_is at (number n) x e = absurd (cc)
boolean_is at (string r) x e = absurd (cc)
boolean_is at (array ts) x e = absurd (cc)
boolean_is at (object ms) x e = absurd (cc)

pub members_are : (at : List Place) (t : Tree) (ms : Members) → members_at at t ≡ Ok ms → t ≡ object ms
members_are at (object os) ms e = cc
members_are at null ms e = absurd (cc)
members_are at (boolean x) ms e = absurd (cc)
members_are at (number n) ms e = absurd (cc)
members_are at (string r) ms e = absurd (cc)
members_are at (array ts) ms e = absurd (cc)

pub items_are : (at : List Place) (t : Tree) (ts : Items) → items_at at t ≡ Ok ts → t ≡ array ts
items_are at (array us) ts e = cc
items_are at null ts e = absurd (cc)
items_are at (boolean x) ts e = absurd (cc)
items_are at (number n) ts e = absurd (cc)
items_are at (string r) ts e = absurd (cc)
items_are at (object ms) ts e = absurd (cc)

pub lawful_texts : Lawful texts 0
unfolding texts
lawful_texts = record {
  sound = text_is;
  complete = λ at t s e. ap (text_of at) e;
  no_null = λ s e. absurd (cc);
  sample = (string [], [], refl);
  within = λ at t f e. omega (arith, expected_there at (as_text t) f e);
  reached = breaks_there texts (boolean true) WrongKind (λ e. absurd (cc)) (λ at. refl);
}

pub lawful_booleans : Lawful booleans 0
unfolding booleans
lawful_booleans = record {
  sound = boolean_is;
  complete = λ at t x e. ap (boolean_of at) e;
  no_null = λ x e. absurd (cc);
  sample = (boolean true, true, refl);
  within = λ at t f e. omega (arith, expected_there at (as_bool t) f e);
  reached = breaks_there booleans (string []) WrongKind (λ e. absurd (cc)) (λ at. refl);
}

pub lawful_objects : Lawful objects 0
unfolding objects
lawful_objects = record {
  sound = members_are;
  complete = λ at t ms e. ap (members_at at) e;
  no_null = λ ms e. absurd (cc);
  sample = (object no_members, no_members, refl);
  within = λ at t f e. omega (arith, expected_there at (as_members t) f e);
  reached = breaks_there objects (boolean true) WrongKind (λ e. absurd (cc)) (λ at. refl);
}

pub texts_return : (s : List ℕ) → Returns texts s
unfolding texts
texts_return s = refl

pub booleans_return : (x : Bool) → Returns booleans x
unfolding booleans
booleans_return x = refl

pub objects_return : (ms : Members) → Returns objects ms
unfolding objects
objects_return ms = refl

-- ---- the laws of lists

each_sound : {A : Type 0} {steps : ℕ} (k : Kind A) → Lawful k steps → (at : List Place) (i : ℕ) (ts : Items) (vs : List A) → read_each k at i ts ≡ Ok vs
    → ReadsEach k ts vs
each_sound k lawful at i no_items [] e = tt
each_sound {A} k lawful at i no_items (v ∷ vs) e = let h : [] ≡ v ∷ vs = cc in absurd (cc)
each_sound k lawful at i (item t ts) [] e =
    let one = bound (k.read (at ++ index i ∷ []) t) _ _ e in
    let more = bound (read_each k at (i + 1) ts) _ _ one.2 in
    let last = more.2 in absurd (cc)
each_sound k lawful at i (item t ts) (v ∷ vs) e =
    let one = bound (k.read (at ++ index i ∷ []) t) _ _ e in
    let more = bound (read_each k at (i + 1) ts) _ _ one.2 in
    let last = more.2 in
    (lawful.sound _ t v (one.1 ∙ cc), each_sound k lawful at (i + 1) ts vs (more.1 ∙ cc))

each_complete : {A : Type 0} {steps : ℕ} (k : Kind A) → Lawful k steps → (at : List Place) (i : ℕ) (ts : Items) (vs : List A) → ReadsEach k ts vs
    → read_each k at i ts ≡ Ok vs
each_complete k lawful at i no_items [] h = refl
each_complete k lawful at i no_items (v ∷ vs) h = absurd h
each_complete k lawful at i (item t ts) [] h = absurd h
each_complete k lawful at i (item t ts) (v ∷ vs) h =
    rw (lawful.complete (at ++ index i ∷ []) t v h.0, each_complete k lawful at (i + 1) ts vs h.1) refl

each_within : {A : Type 0} {steps : ℕ} (k : Kind A) → Lawful k steps → (at : List Place) (i : ℕ) (ts : Items) (f : FieldFault) → read_each k at i ts ≡ Err f
    → length f.path ≤ length at + (1 + steps)
each_within k lawful at i no_items f e = absurd (cc)
each_within k lawful at i (item t ts) f e = elim (broken (k.read (at ++ index i ∷ []) t) _ f e) [
  | inl h ↦ omega (arith, lawful.within (at ++ index i ∷ []) t f h, length-append at (index i ∷ []))
  | inr h ↦ elim (broken (read_each k at (i + 1) ts) _ f h.2) [
    | inl q ↦ each_within k lawful at (i + 1) ts f q
    | inr q ↦ let bad = q.2 in absurd (cc)
  ]
]

pub lawful_list : {A : Type 0} {k : Kind A} {steps : ℕ} → Lawful k steps → Lawful (list_of k) (1 + steps)
lawful_list {A = A} {k = k} {steps = steps} lawful = record {
  sound = λ at t vs e. let h = bound (items_at at t) _ _ e in (h.0, items_are at t h.0 h.1, each_sound k lawful at 0 h.0 vs h.2);
  complete = λ at t vs h. rw (h.1) (each_complete k lawful at 0 h.0 vs h.2);
  no_null = λ vs h. let e = h.1 in absurd (cc);
  sample = (array no_items, [], (no_items, refl, tt));
  within = within;
  reached = (array (item deep.0 no_items), (λ e. absurd (cc)), reached);
} where
  deep : Reaches k steps
  deep = lawful.reached

  within : Within (list_of k) (1 + steps)
  within at t f e = elim (broken (items_at at t) _ f e) [
    | inl h ↦ omega (arith, expected_there at (as_items t) f h)
    | inr h ↦ each_within k lawful at 0 h.0 f h.2
  ]

  reached : (at : List Place) → (f : FieldFault) × ((list_of k).read at (array (item deep.0 no_items)) ≡ Err f) × (length f.path ≡ length at + (1 + steps))
  reached at =
      let one = deep.2 (at ++ index 0 ∷ []) in
      (one.0, breaks_first (k.read (at ++ index 0 ∷ []) deep.0) _ one.0 one.1, omega (arith, one.2, length-append at (index 0 ∷ [])))

each_returns : {A : Type 0} (k : Kind A) (vs : List A) → ReturnsEach k vs → ReadsEach k (items_of (map k.tree vs)) vs
each_returns k [] h = tt
each_returns k (v ∷ vs) h = (h.0, each_returns k vs h.1)

pub list_returns : {A : Type 0} (k : Kind A) (vs : List A) → ReturnsEach k vs → Returns (list_of k) vs
list_returns k vs h = (items_of (map k.tree vs), refl, each_returns k vs h)
