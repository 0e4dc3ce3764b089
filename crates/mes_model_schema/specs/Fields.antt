-- The members of an object, looked up by name. A name that is looked up must not occur twice, and a
-- member with the value null counts as absent.
use Rattle.std.specs.Prelude.{◌≡◌, ◌≢◌, ◌⊎◌, ℕ, Bool, true, false, List, [], ◌∷◌, ◌++◌, bytes_eq, ◌||◌, if◌then◌else◌, Option, Some, None, Result, Ok, Err}
use Rattle.mes_json.specs.Tree.{Tree, Members}
use Rattle.mes_json.specs.Tree.Tree.{null, boolean, number, string, array, object}
use Rattle.mes_json.specs.Tree.Members.{no_members, member}
use Rattle.mes_model_schema.specs.Paths.{Place}
use Rattle.mes_model_schema.specs.Paths.Place.{name}
use Rattle.mes_model_schema.specs.declared.field.FieldFault.{FieldFault}
use Rattle.mes_model_schema.specs.declared.field.FieldFaultKind.{FieldFaultKind}
use Rattle.mes_model_schema.specs.declared.field.FieldFaultKind.TheVariants.{Twice}

-- the values of the members of this name, in order
abbrev pub values_named : List ℕ → Members → List Tree
values_named n no_members = []
values_named n (member m t ms) = if bytes_eq m n then t ∷ values_named n ms else values_named n ms

-- the name is in the list
abbrev pub is_in : List ℕ → List (List ℕ) → Bool
is_in n [] = false
is_in n (m ∷ ms) = bytes_eq m n || is_in n ms

-- exactly one member has the name, and its value is t, not null
abbrev pub Has : Members → List ℕ → Tree → Type 0
Has ms n t = (values_named n ms ≡ t ∷ []) × (t ≢ null)

-- no member has the name, or exactly one has it and its value is null
abbrev pub Lacks : Members → List ℕ → Type 0
Lacks ms n = (values_named n ms ≡ []) ⊎ (values_named n ms ≡ null ∷ [])

-- the path of the member of this name, in an object at a path
abbrev pub below : List Place → List ℕ → List Place
below at n = at ++ name n ∷ []

-- the result with a fault at this path, for this reason
abbrev pub fault : {V : Type 0} → List Place → FieldFaultKind → Result V FieldFault
fault at why = Err (record { path = at; why = why })

abbrev pub is_null : Tree → Bool
is_null null = true
is_null (boolean x) = false
is_null (number n) = false
is_null (string s) = false
is_null (array ts) = false
is_null (object ms) = false

abbrev pub unless_null : Tree → Option Tree
unless_null t = if is_null t then None else Some t

-- the only value in the list, if it is not null; two or more values are a fault at the path
abbrev pub single : List Place → List Tree → Result (Option Tree) FieldFault
single at [] = Ok None
single at (t ∷ []) = Ok (unless_null t)
single at (t ∷ u ∷ ts) = fault at Twice

-- the value of the member of this name, in an object at a path
unfoldable pub lookup : List Place → List ℕ → Members → Result (Option Tree) FieldFault
lookup at n ms = single (below at n) (values_named n ms)
