-- The number of steps from a tree to its faults: 0 for a fault of the tree itself, and 1 or more
-- for a fault in a member.
use Rattle.std.proofs.Common.{◌≡◌, ◌≢◌, inl, inr, ℕ, ◌+◌, ◌≤◌, List, [], ◌∷◌, length, Option, Some, None, ◌∙◌, ap, arith, length-append}
use Rattle.std.specs.Prelude.{Result, Err}
use Rattle.mes_json.specs.Tree.{Tree, Members}
use Rattle.mes_json.specs.Tree.Tree.{null}
use Rattle.mes_model_schema.specs.Paths.{Place}
use Rattle.mes_model_schema.specs.Paths.Place.{name}
use Rattle.mes_model_schema.specs.Fields.{values_named, below, fault, single, lookup}
use Rattle.mes_model_schema.specs.Kinds.{Kind, Reaches, ◌>>=◌}
use Rattle.mes_model_schema.specs.Leaves.{expected}
use Rattle.mes_model_schema.specs.FieldLaws.{after, broken, has_looked}
use Rattle.mes_model_schema.specs.NameLaws.{Agrees, Pairs, Under, under_one, has_one}
use Rattle.mes_model_schema.specs.declared.field.FieldFault.{FieldFault}
use Rattle.mes_model_schema.specs.declared.field.FieldFaultKind.{FieldFaultKind}
use Rattle.mes_model_schema.specs.declared.field.FieldFaultKind.TheVariants.{WrongKind, Twice}

-- Some members, all of them under these names, are read as a value.
abbrev pub SomeRead : {F : Type 0} → List (List ℕ) → (Members → F → Type 0) → Type 0
SomeRead {F} names Reads = (own : Pairs) × Under names own × ((ms : Members) → Agrees names ms own → (x : F) × Reads ms x)

-- Some members, all of them under these names, have at every path a fault this number of steps
-- below that path.
abbrev pub SomeDeep : {F : Type 0} → List (List ℕ) → (List Place → Members → Result F FieldFault) → ℕ → Type 0
SomeDeep names read steps =
    (own : Pairs) × Under names own
    × ((at : List Place) (ms : Members) → Agrees names ms own → (f : FieldFault) × (read at ms ≡ Err f) × (length f.path ≡ length at + steps))

-- ---- a fault of the tree itself

pub fault_there : {V : Type 0} (at : List Place) (why : FieldFaultKind) (f : FieldFault) → fault {V = V} at why ≡ Err f → length f.path ≡ length at
fault_there {V} at why f e = let same : f ≡ record { path = at; why = why } = cc in ap (λ (g : FieldFault). length g.path) same

-- the fault `WrongKind` is at the path of the tree
pub expected_there : {V : Type 0} (at : List Place) (o : Option V) (f : FieldFault) → expected at o ≡ Err f → length f.path ≡ length at
expected_there at None f e = fault_there at WrongKind f e
expected_there at (Some v) f e = absurd (cc)

-- some tree has a fault at its own path
pub breaks_there : {V : Type 0} (k : Kind V) (t : Tree) (why : FieldFaultKind) → t ≢ null → ((at : List Place) → k.read at t ≡ fault at why) → Reaches k 0
breaks_there k t why there breaks = (t, there, (λ at. (record { path = at; why = why }, breaks at, omega arith)))

-- ---- a fault in a member

looked_there : (at : List Place) (n : List ℕ) (ms : Members) (f : FieldFault) → lookup at n ms ≡ Err f → length f.path ≡ length at + 1
unfolding lookup
looked_there at n ms f e = by_values (values_named n ms) e where
  by_values : (ts : List Tree) → single (below at n) ts ≡ Err f → length f.path ≡ length at + 1
  by_values [] e = absurd (cc)
  by_values (t ∷ []) e = absurd (cc)
  by_values (t ∷ u ∷ ts) e = fault_there (below at n) Twice f e ∙ length-append at (name n ∷ [])

-- a fault of a row is one step below the message, or in the value of the member
pub row_within : {F : Type 0} (n : List ℕ) (steps : ℕ) (value : List Place → Option Tree → Result F FieldFault)
    → ((at : List Place) (o : Option Tree) (f : FieldFault) → value at o ≡ Err f → length f.path ≤ length at + steps)
    → (at : List Place) (ms : Members) (f : FieldFault) → (lookup at n ms >>= value (below at n)) ≡ Err f → length f.path ≤ length at + (1 + steps)
row_within n steps value within at ms f e = elim (broken (lookup at n ms) (value (below at n)) f e) [
  | inl h ↦ omega (arith, looked_there at n ms f h)
  | inr h ↦ omega (arith, within (below at n) h.0 f h.2, length-append at (name n ∷ []))
]

-- a fault in the value of a member is one step deeper in the message
pub row_deep : {F : Type 0} (n : List ℕ) (steps : ℕ) (value : List Place → Option Tree → Result F FieldFault) (t : Tree) → t ≢ null
    → ((at : List Place) → (f : FieldFault) × (value at (Some t) ≡ Err f) × (length f.path ≡ length at + steps))
    → SomeDeep (n ∷ []) (λ at ms. lookup at n ms >>= value (below at n)) (1 + steps)
row_deep n steps value t there deep = (
  (n, t) ∷ [],
  under_one n t,
  (λ at ms agrees.
      let one = deep (below at n) in
      (one.0, after _ _ (Some t) (has_looked at n ms t (has_one n ms t there agrees)) ∙ one.1, omega (arith, one.2, length-append at (name n ∷ [])))),
)
