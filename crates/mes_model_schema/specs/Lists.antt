-- Lists, in JSON an array in which each item is a value of one kind.
use Rattle.std.specs.Prelude.{◌≡◌, ℕ, ◌+◌, List, [], ◌∷◌, ◌++◌, map, Result, Ok}
use Rattle.mes_json.specs.Tree.{Tree, Items}
use Rattle.mes_json.specs.Tree.Tree.{array}
use Rattle.mes_json.specs.Tree.Items.{no_items, item}
use Rattle.mes_json.specs.Cursor.{as_items}
use Rattle.mes_json.specs.View.{items_of}
use Rattle.mes_model_schema.specs.Paths.{Place}
use Rattle.mes_model_schema.specs.Paths.Place.{index}
use Rattle.mes_model_schema.specs.Kinds.{Kind, ◌>>=◌}
use Rattle.mes_model_schema.specs.Leaves.{expected}
use Rattle.mes_model_schema.specs.declared.field.FieldFault.{FieldFault}

-- each item is read as the value at its index
abbrev pub ReadsEach : {V : Type 0} → Kind V → Items → List V → Type 0
ReadsEach k no_items [] = Unit {0}
ReadsEach k no_items (v ∷ vs) = ⊥
ReadsEach k (item t ts) [] = ⊥
ReadsEach k (item t ts) (v ∷ vs) = k.Reads t v × ReadsEach k ts vs

-- the values of the items in order, or the first fault; the first item has index i in the path
abbrev pub read_each : {V : Type 0} → Kind V → List Place → ℕ → Items → Result (List V) FieldFault
read_each k at i no_items = Ok []
read_each k at i (item t ts) =
    k.read (at ++ index i ∷ []) t >>= λ v. read_each k at (i + 1) ts >>= λ vs. Ok (v ∷ vs)

-- the items of an array, or the fault of a tree that is no array
abbrev pub items_at : List Place → Tree → Result Items FieldFault
items_at at t = expected at (as_items t)

-- the kind of lists with values of this kind
abbrev pub list_of : {V : Type 0} → Kind V → Kind (List V)
list_of k = record {
  Reads = λ t vs. (ts : Items) × (t ≡ array ts) × ReadsEach k ts vs;
  read = λ at t. items_at at t >>= λ ts. read_each k at 0 ts;
  tree = λ vs. array (items_of (map k.tree vs));
}
