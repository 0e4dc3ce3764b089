-- The members of an object that were found under each name: none, one, or more.
use Rattle.std.specs.Prelude.{◌≡◌, ℕ, suc, ◌<◌, ◌≤◌, Bool, true, false, List, [], ◌∷◌, length, slice_index_or, Option, Some, None, Result, Ok, Err}
use Rattle.mes_json.specs.Tree.{Tree, Members}
use Rattle.mes_json.specs.Tree.Tree.{object}
use Rattle.mes_json.specs.Tokens.{Token, BeginsWith}
use Rattle.mes_model_schema.specs.Paths.{Place}
use Rattle.mes_model_schema.specs.Fields.{values_named, fault}
use Rattle.mes_model_schema.specs.Leaves.{members_at}
use Rattle.mes_model_schema.specs.declared.field.FieldFault.{FieldFault}
use Rattle.mes_model_schema.specs.declared.field.FieldFaultKind.TheVariants.{Twice}
use Rattle.mes_model_schema.specs.declared.found_rows.Found.{Found}
use Rattle.mes_model_schema.specs.declared.found_rows.Found.TheVariants.{Nothing, One, More}
use Rattle.mes_model_schema.specs.declared.read_row.Unique.{Unique}
use Rattle.mes_model_schema.specs.declared.read_row.Unique.TheVariants.{Absent, Present, Repeated}
use Rattle.mes_model_schema.specs.declared.part.PartFault.{PartFault}
use Rattle.mes_model_schema.specs.Parts.{Refuses}
use Rattle.mes_model_schema.specs.RowNames.{name_at}

-- an entry `Found` represents this list of values
abbrev pub IsFound : Found → List Tree → Type 0
IsFound Nothing ts = ts ≡ []
IsFound (One e) ts = (t : Tree) × (ts ≡ t ∷ []) × BeginsWith e t
IsFound More ts = 2 ≤ length ts

-- the entry after one more member of its name was found
abbrev pub noted : List Token → Found → Found
noted e Nothing = One e
noted e (One x) = More
noted e More = More

-- the entry after one more member was found, if the boolean says that the member has its name
abbrev pub noted_if : Bool → List Token → Found → Found
noted_if true e f = noted e f
noted_if false e f = f

-- from index i on, the entries represent the values of the members under each of these names
abbrev pub FindsEach : ℕ → List (List ℕ) → Members → List Found → Type 0
FindsEach i [] ms fs = Unit {0}
FindsEach i (n ∷ ns) ms fs = IsFound (slice_index_or fs i Nothing) (values_named n ms) × FindsEach (suc i) ns ms fs

-- for each of these names, the entry at its index represents the values of the members of that name
abbrev pub FindsAll : List (List ℕ) → Members → List Found → Type 0
FindsAll names ms fs = (i : ℕ) → i < length names → IsFound (slice_index_or fs i Nothing) (values_named (name_at names i) ms)

-- the tree is an object and its members were found, or the result is the fault of a tree that is no
-- object
abbrev pub FindsRows : List (List ℕ) → List Place → Tree → List Found → Result (Unit {0}) PartFault → Type 0
FindsRows names at t fs (Ok _) = (ms : Members) × (t ≡ object ms) × FindsAll names ms fs
FindsRows names at t fs (Err e) = Refuses (members_at at t) e

-- the result of a look-up: absent, present at this position of the tape, or a duplicate
abbrev pub IsSole : List Place → Result (Option Tree) FieldFault → Unique → Type 0
IsSole at expected Absent = expected ≡ Ok None
IsSole at expected (Present e) = (t : Tree) × (expected ≡ Ok (Some t)) × BeginsWith e t
IsSole at expected Repeated = expected ≡ fault at Twice
