-- Laws of `lookup`, which finds the member of a name, and of `>>=`, which chains two results.
use Rattle.std.proofs.Common.{◌≡◌, ◌≢◌, ◌⊎◌, inl, inr, ℕ, List, [], ◌∷◌, Option, Some, None, refl, sym, ◌∙◌, ap, subst}
use Rattle.std.specs.Prelude.{Result, Ok, Err}
use Rattle.mes_json.specs.Tree.{Tree, Members}
use Rattle.mes_json.specs.Tree.Tree.{null, boolean, number, string, array, object}
use Rattle.mes_model_schema.specs.Paths.{Place}
use Rattle.mes_model_schema.specs.Fields.{values_named, Has, Lacks, below, unless_null, single, lookup}
use Rattle.mes_model_schema.specs.Kinds.{◌>>=◌}
use Rattle.mes_model_schema.specs.declared.field.FieldFault.{FieldFault}

-- ---- the value or fault of a chain of two results

pub bound : {A B : Type 0} (r : Result A FieldFault) (go : A → Result B FieldFault) (w : B) → (r >>= go) ≡ Ok w
    → (v : A) × (r ≡ Ok v) × (go v ≡ Ok w)
bound (Ok v) go w e = (v, refl, e)
bound {A} {B} (Err f) go w e = let h : Err f ≡ Ok w = e in absurd (cc)

pub after : {A B : Type 0} (r : Result A FieldFault) (go : A → Result B FieldFault) (v : A) → r ≡ Ok v → (r >>= go) ≡ go v
after {A} r go v e = ap (λ (x : Result A FieldFault). x >>= go) e

-- the fault of a chain is that of the first result, or that of the second given the first value
pub broken : {A B : Type 0} (r : Result A FieldFault) (go : A → Result B FieldFault) (f : FieldFault) → (r >>= go) ≡ Err f
    → (r ≡ Err f) ⊎ ((v : A) × (r ≡ Ok v) × (go v ≡ Err f))
broken (Ok v) go f e = inr (v, refl, e)
broken {A} {B} (Err g) go f e = let h : Err g ≡ Err f = e in inl (cc)

-- a fault of the first result is the fault of the chain
pub breaks_first : {A B : Type 0} (r : Result A FieldFault) (go : A → Result B FieldFault) (f : FieldFault) → r ≡ Err f → (r >>= go) ≡ Err f
breaks_first {A} r go f e = ap (λ (x : Result A FieldFault). x >>= go) e

pub bound_ok : {A : Type 0} (r : Result A FieldFault) → (r >>= (λ x. Ok x)) ≡ r
bound_ok (Ok v) = refl
bound_ok (Err f) = refl

-- ---- a tree that isn't null

pub some_unless_null : (t : Tree) → t ≢ null → unless_null t ≡ Some t
some_unless_null null h = absurd (h refl)
some_unless_null (boolean x) h = refl
some_unless_null (number n) h = refl
some_unless_null (string s) h = refl
some_unless_null (array ts) h = refl
some_unless_null (object ms) h = refl

none_or_some : (t : Tree) → ((t ≡ null) × (unless_null t ≡ None)) ⊎ ((t ≢ null) × (unless_null t ≡ Some t))
none_or_some null = inl (refl, refl)
none_or_some (boolean x) = inr ((λ e. absurd (cc)), refl)
none_or_some (number n) = inr ((λ e. absurd (cc)), refl)
none_or_some (string s) = inr ((λ e. absurd (cc)), refl)
none_or_some (array ts) = inr ((λ e. absurd (cc)), refl)
none_or_some (object ms) = inr ((λ e. absurd (cc)), refl)

-- ---- looking up the member of a name

pub has_looked : (at : List Place) (n : List ℕ) (ms : Members) (t : Tree) → Has ms n t → lookup at n ms ≡ Ok (Some t)
unfolding lookup
has_looked at n ms t h = rw (h.0) (ap (λ (o : Option Tree). Ok o) (some_unless_null t h.1))

pub lacks_looked : (at : List Place) (n : List ℕ) (ms : Members) → Lacks ms n → lookup at n ms ≡ Ok None
unfolding lookup
lacks_looked at n ms (inl e) = rw e refl
lacks_looked at n ms (inr e) = rw e refl

-- a successful look-up found that the member is absent, or its value
pub looked : {F : Type 0} (at : List Place) (n : List ℕ) (ms : Members) (value : Option Tree → Result F FieldFault) (x : F)
    → (lookup at n ms >>= value) ≡ Ok x → (Lacks ms n × (value None ≡ Ok x)) ⊎ ((t : Tree) × Has ms n t × (value (Some t) ≡ Ok x))
unfolding lookup
looked {F} at n ms value x e = by_values (values_named n ms) refl e where
  one : (t : Tree) → values_named n ms ≡ t ∷ [] → value (unless_null t) ≡ Ok x
      → (Lacks ms n × (value None ≡ Ok x)) ⊎ ((t : Tree) × Has ms n t × (value (Some t) ≡ Ok x))
  one t is e = elim (none_or_some t) [
    | inl h ↦ inl (inr (subst (λ (u : Tree). values_named n ms ≡ u ∷ []) h.0 is), subst (λ (o : Option Tree). value o ≡ Ok x) h.1 e)
    | inr h ↦ inr (t, (is, h.0), subst (λ (o : Option Tree). value o ≡ Ok x) h.1 e)
  ]

  by_values : (ts : List Tree) → values_named n ms ≡ ts → (single (below at n) ts >>= value) ≡ Ok x
      → (Lacks ms n × (value None ≡ Ok x)) ⊎ ((t : Tree) × Has ms n t × (value (Some t) ≡ Ok x))
  by_values [] is e = inl (inl is, e)
  by_values (t ∷ []) is e = one t is e
  by_values (t ∷ u ∷ ts) is e = absurd (cc)

pub one_value : (ms : Members) (n : List ℕ) (t u : Tree) → Has ms n t → Has ms n u → t ≡ u
one_value ms n t u p q = let e : t ∷ [] ≡ u ∷ [] = sym p.0 ∙ q.0 in cc

pub has_or_lacks : (ms : Members) (n : List ℕ) (t : Tree) → Has ms n t → Lacks ms n → ⊥
has_or_lacks ms n t p (inl q) = let e : t ∷ [] ≡ [] = sym p.0 ∙ q in absurd (cc)
has_or_lacks ms n t p (inr q) = let e : t ∷ [] ≡ null ∷ [] = sym p.0 ∙ q in p.1 (cc)
