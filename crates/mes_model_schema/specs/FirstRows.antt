-- The first fault of a message, row by row of its table. A row can have the first fault only if the
-- rows before it have none.
use Rattle.std.specs.Prelude.{◌≡◌, ◌≢◌, ◌⊎◌, ◌↔◌, ℕ, List}
use Rattle.mes_json.specs.Tree.{Tree, Members}
use Rattle.mes_json.specs.Tree.Tree.{string, object}
use Rattle.mes_model_schema.specs.Paths.{Place}
use Rattle.mes_model_schema.specs.Fields.{Has, below}
use Rattle.mes_model_schema.specs.Kinds.{Kind}
use Rattle.mes_model_schema.specs.Leaves.{texts, objects}
use Rattle.mes_model_schema.specs.Lists.{list_of}
use Rattle.mes_model_schema.specs.Rows.{Table, need, maybe, many, flag}
use Rattle.mes_model_schema.specs.Choices.{Choice, type_name}
use Rattle.mes_model_schema.specs.FirstFaults.{IsAt, IsObject, OtherKind, AreRead, RowsBreak, OptionalBreaks, NeedBreaks, ChoiceBreaks}
use Rattle.mes_model_schema.specs.declared.field.FieldFault.{FieldFault}
use Rattle.mes_model_schema.specs.declared.field.FieldFaultKind.{FieldFaultKind}

-- the type of relations between the path of an object, its members and a fault
abbrev pub OfRows : Type 1
OfRows = List Place → Members → FieldFault → Type 0

-- like `OfRows`, but also with the type of the object
abbrev pub OfTypes : Type 1
OfTypes = List Place → List ℕ → Members → FieldFault → Type 0

-- ---- the first fault of rows in order

-- the end of a table: no fault
abbrev pub NoRows : OfRows
NoRows at ms f = ⊥

-- these rows have the fault, or they have a value and the later rows have the fault
abbrev pub Then : {F : Type 0} → Table F → OfRows → OfRows → OfRows
Then r own later at ms f = own at ms f ⊎ (AreRead r ms × later at ms f)

-- the first fault of a required member and the later rows
abbrev pub NeedThen : {V : Type 0} → List ℕ → Kind V → OfRows → OfRows
NeedThen n k later = Then (need n k) (NeedBreaks k n) later

-- the first fault of an optional member and the later rows
abbrev pub MaybeThen : {V : Type 0} → List ℕ → Kind V → OfRows → OfRows
MaybeThen n k later = Then (maybe n k) (OptionalBreaks k n) later

-- the first fault of a list, whose member may be absent, and the later rows
abbrev pub ListThen : {V : Type 0} → List ℕ → Kind V → OfRows → OfRows
ListThen n k later = Then (many n k) (OptionalBreaks (list_of k) n) later

-- the first fault of a flag and the later rows
abbrev pub FlagThen : List ℕ → OfRows → OfRows
FlagThen n later = Then (flag n) (OptionalBreaks objects n) later

-- ---- the first fault of a typed value

-- for this type, the fault is that of these rows; for other types, it is that of the later types
abbrev pub TypeThen : List ℕ → OfRows → OfTypes → OfTypes
TypeThen this own later at kind ms f = ((kind ≡ this) × own at ms f) ⊎ ((kind ≢ this) × later at kind ms f)

-- any other type is a fault of the member `type`, for this reason
abbrev pub NoType : FieldFaultKind → OfTypes
NoType why at kind ms f = IsAt (below at type_name) why f

-- any other type has no fault
abbrev pub AnyType : OfTypes
AnyType at kind ms f = ⊥

-- the member `type` has the fault, or the rows of that type have the fault
abbrev pub ByType : OfTypes → OfRows
ByType types at ms f =
    NeedBreaks texts type_name at ms f
    ⊎ ((kind : List ℕ) × Has ms type_name (string kind) × types at kind ms f)

-- ---- the first fault of a message

-- the tree is not an object, or an object whose rows have the fault
abbrev pub OfMessage : OfRows → List Place → Tree → FieldFault → Type 0
OfMessage rows at t f =
    OtherKind (IsObject t) at f
    ⊎ ((ms : Members) × (t ≡ object ms) × rows at ms f)

-- ---- the laws that are stated for each message

-- The table has a first fault if and only if `faults` relates the object to it.
pub record RowsHave {F : Type 0} (r : Table F) (faults : OfRows) : Type 0 where
  pub just : (at : List Place) (ms : Members) (f : FieldFault) → RowsBreak r at ms f ↔ faults at ms f

-- The rows of a type have a first fault if and only if `faults` relates the type and object to it.
pub record TypesHave {F : Type 0} (c : Choice F) (faults : OfTypes) : Type 0 where
  pub just : (at : List Place) (kind : List ℕ) (ms : Members) (f : FieldFault) → ChoiceBreaks c at kind ms f ↔ faults at kind ms f
