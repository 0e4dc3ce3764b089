-- A kind of value: the JSON trees that are read as a value, the first faults of all other trees,
-- and the tree that a value is written as.
use Rattle.std.specs.Prelude.{◌≡◌, ◌≢◌, ◌⊎◌, ℕ, ◌+◌, ◌≤◌, List, length, Result, Ok, Err}
use Rattle.mes_json.specs.Tree.{Tree}
use Rattle.mes_json.specs.Tree.Tree.{null}
use Rattle.mes_model_schema.specs.Paths.{Place}
use Rattle.mes_model_schema.specs.declared.field.FieldFault.{FieldFault}

pub record Kind (V : Type 0) : Type 1 where
  -- the tree is read as the value
  pub Reads : Tree → V → Type 0
  -- the value of a tree at a path, or the first fault of the tree
  pub read : List Place → Tree → Result V FieldFault
  -- the tree that the value is written as
  pub tree : V → Tree

-- the tree at this path has no value of the kind, and its first fault is the last argument
abbrev pub Breaks : {V : Type 0} → Kind V → List Place → Tree → FieldFault → Type 0
Breaks k at t f = k.read at t ≡ Err f

-- no fault of a tree is more than this number of steps below the tree
abbrev pub Within : {V : Type 0} → Kind V → ℕ → Type 0
Within k steps = (at : List Place) (t : Tree) (f : FieldFault) → Breaks k at t f → length f.path ≤ length at + steps

-- some tree other than null has, at every path, a fault exactly this number of steps below the tree
abbrev pub Reaches : {V : Type 0} → Kind V → ℕ → Type 0
Reaches k steps = (t : Tree) × (t ≢ null) × ((at : List Place) → (f : FieldFault) × Breaks k at t f × (length f.path ≡ length at + steps))

-- The laws of a kind: `read` decides `Reads`, null is no value, and a fault is at most `steps`
-- steps below its tree.
pub record Lawful {V : Type 0} (k : Kind V) (steps : ℕ) : Type 0 where
  pub sound : (at : List Place) (t : Tree) (v : V) → k.read at t ≡ Ok v → k.Reads t v
  pub complete : (at : List Place) (t : Tree) (v : V) → k.Reads t v → k.read at t ≡ Ok v
  pub no_null : (v : V) → k.Reads null v → ⊥
  pub sample : (t : Tree) × (v : V) × k.Reads t v
  pub within : Within k steps
  pub reached : Reaches k steps

-- the tree has exactly one value and no fault, or exactly one fault and no value
abbrev pub Settled : {V : Type 0} → Kind V → List Place → Tree → Type 0
Settled {V} k at t =
    ((v : V) × k.Reads t v × ((w : V) → k.Reads t w → w ≡ v) × ((f : FieldFault) → Breaks k at t f → ⊥))
    ⊎ ((f : FieldFault) × Breaks k at t f × ((g : FieldFault) → Breaks k at t g → g ≡ f) × ((w : V) → k.Reads t w → ⊥))

-- the value is read back from the tree that it is written as
abbrev pub Returns : {V : Type 0} → Kind V → V → Type 0
Returns k v = k.Reads (k.tree v) v

-- the second result, computed from the value of the first; a fault of the first is the result
infixl 1 ◌>>=◌
abbrev pub ◌>>=◌ : {V W : Type 0} → Result V FieldFault → (V → Result W FieldFault) → Result W FieldFault
Ok v >>= go = go v
Err f >>= go = Err f
