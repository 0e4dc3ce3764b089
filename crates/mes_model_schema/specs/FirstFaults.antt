-- The first fault of a tree, stated by duplicate, missing and invalid members. The laws are in
-- src/first_fault.rt.
use Rattle.std.specs.Prelude.{◌≡◌, ◌≢◌, ◌⊎◌, ◌↔◌, ℕ, ◌≤◌, Bool, true, false, List, [], ◌∷◌, ◌++◌, length, All, Ok, Err}
use Rattle.mes_json.specs.Tree.{Tree, Items, Members}
use Rattle.mes_json.specs.Tree.Tree.{boolean, number, string, array, object}
use Rattle.mes_json.specs.View.{items_of}
use Rattle.mes_model_schema.specs.Paths.{Place}
use Rattle.mes_model_schema.specs.Paths.Place.{index}
use Rattle.mes_model_schema.specs.Fields.{values_named, Has, Lacks, below, fault}
use Rattle.mes_model_schema.specs.Kinds.{Kind, Breaks}
use Rattle.mes_model_schema.specs.Leaves.{texts}
use Rattle.mes_model_schema.specs.Lists.{list_of}
use Rattle.mes_model_schema.specs.Rows.{Table}
use Rattle.mes_model_schema.specs.Choices.{Choice, type_name}
use Rattle.mes_model_schema.specs.declared.field.FieldFault.{FieldFault}
use Rattle.mes_model_schema.specs.declared.field.FieldFaultKind.{FieldFaultKind}
use Rattle.mes_model_schema.specs.declared.field.FieldFaultKind.TheVariants.{Missing, Twice, WrongKind}

-- the fault has this path and this reason
abbrev pub IsAt : List Place → FieldFaultKind → FieldFault → Type 0
IsAt at why f = (f.path ≡ at) × (f.why ≡ why)

-- ---- the fault of a value that is no message and no list

abbrev pub IsString : Tree → Type 0
IsString t = (s : List ℕ) × (t ≡ string s)

abbrev pub IsBoolean : Tree → Type 0
IsBoolean t = (x : Bool) × (t ≡ boolean x)

abbrev pub IsNumber : Tree → Type 0
IsNumber t = (s : List ℕ) × (t ≡ number s)

abbrev pub IsArray : Tree → Type 0
IsArray t = (ts : Items) × (t ≡ array ts)

abbrev pub IsObject : Tree → Type 0
IsObject t = (ms : Members) × (t ≡ object ms)

-- the tree does not have the expected JSON type, and the fault is `WrongKind` at this path
abbrev pub OtherKind : Type 0 → List Place → FieldFault → Type 0
OtherKind Is at f = ¬ Is × IsAt at WrongKind f

-- the tree has a value of the kind
abbrev pub IsRead : {V : Type 0} → Kind V → Tree → Type 0
IsRead {V} k t = (v : V) × k.Reads t v

-- the fault of a tree: it has another JSON type, or the right type but no value, for this reason
abbrev pub ValueBreaks : {V : Type 0} → (Tree → Type 0) → FieldFaultKind → Kind V → List Place → Tree → FieldFault → Type 0
ValueBreaks Is why k at t f = OtherKind (Is t) at f ⊎ (Is t × ¬ IsRead k t × IsAt at why f)

-- ---- the fault of the member of one name

-- two or more members have the name
abbrev pub IsDuplicated : Members → List ℕ → Type 0
IsDuplicated ms n = 2 ≤ length (values_named n ms)

-- the fault of an optional member: it occurs twice, or its value has this first fault
abbrev pub OptionalBreaks : {V : Type 0} → Kind V → List ℕ → List Place → Members → FieldFault → Type 0
OptionalBreaks k n at ms f =
    (IsDuplicated ms n × IsAt (below at n) Twice f)
    ⊎ ((t : Tree) × Has ms n t × Breaks k (below at n) t f)

-- the fault of a required member: it is missing, or it has the fault of an optional member
abbrev pub NeedBreaks : {V : Type 0} → Kind V → List ℕ → List Place → Members → FieldFault → Type 0
NeedBreaks k n at ms f = (Lacks ms n × IsAt (below at n) Missing f) ⊎ OptionalBreaks k n at ms f

-- ---- the fault of consecutive rows, and of a message

-- in an object at this path with these members, the table's first fault is f
abbrev pub RowsBreak : {F : Type 0} → Table F → List Place → Members → FieldFault → Type 0
RowsBreak r at ms f = r.read at ms ≡ Err f

-- at any path, `read` returns x if and only if `Reads` relates the members to x
abbrev pub IsExact : {F : Type 0} → Table F → Type 0
IsExact {F} r = (at : List Place) (ms : Members) (x : F) → r.read at ms ≡ Ok x ↔ r.Reads ms x

-- the members have a value in this table
abbrev pub AreRead : {F : Type 0} → Table F → Members → Type 0
AreRead {F} r ms = (x : F) × r.Reads ms x

-- the first table has the fault, or the first table has a value and the second has the fault
abbrev pub JoinedBreak : {F G : Type 0} → Table F → Table G → List Place → Members → FieldFault → Type 0
JoinedBreak r s at ms f = RowsBreak r at ms f ⊎ (AreRead r ms × RowsBreak s at ms f)

-- the fault of a tree: it is not an object, or the members in the table have the fault
abbrev pub MessageBreaks : {F : Type 0} → Table F → List Place → Tree → FieldFault → Type 0
MessageBreaks r at t f =
    OtherKind (IsObject t) at f
    ⊎ ((ms : Members) × (t ≡ object ms) × RowsBreak r at ms f)

-- ---- the fault of a list

-- the first invalid item has the fault, whose path has the index of the item
abbrev pub ItemBreaks : {V : Type 0} → Kind V → List Place → Items → FieldFault → Type 0
ItemBreaks k at ts f =
    (front : List Tree) × (t : Tree) × (following : List Tree)
    × (ts ≡ items_of (front ++ t ∷ following))
    × All (IsRead k) front
    × Breaks k (at ++ index (length front) ∷ []) t f

-- the fault of a list: it is not an array, or an array with an invalid item
abbrev pub ListBreaks : {V : Type 0} → Kind V → List Place → Tree → FieldFault → Type 0
ListBreaks k at t f =
    OtherKind (IsArray t) at f
    ⊎ ((ts : Items) × (t ≡ array ts) × ItemBreaks k at ts f)

-- the fault of a list in either form: the tree is neither an array nor an object, an array with an
-- invalid item, or an object whose member of this name has the fault
abbrev pub EitherListBreaks : {V : Type 0} → List ℕ → Kind V → List Place → Tree → FieldFault → Type 0
EitherListBreaks n k at t f =
    (¬ IsArray t × ¬ IsObject t × IsAt at WrongKind f)
    ⊎ (((ts : Items) × (t ≡ array ts) × ItemBreaks k at ts f)
    ⊎ ((ms : Members) × (t ≡ object ms) × OptionalBreaks (list_of k) n at ms f))

-- ---- the fault of a typed value: of the row `type`, or of the rows of its type

-- in an object at this path with this type and these members, the first fault is f
abbrev pub ChoiceBreaks : {F : Type 0} → Choice F → List Place → List ℕ → Members → FieldFault → Type 0
ChoiceBreaks c at kind ms f = c.read at kind ms ≡ Err f

-- the row `type` has the fault, or the rows of its type have it
abbrev pub TypedBreak : {F : Type 0} → Choice F → List Place → Members → FieldFault → Type 0
TypedBreak c at ms f =
    NeedBreaks texts type_name at ms f
    ⊎ ((kind : List ℕ) × Has ms type_name (string kind) × ChoiceBreaks c at kind ms f)

-- the type is the first argument and its rows have the fault, or it is another type and the rows of
-- the other types have the fault
abbrev pub CaseBreaks : {F G : Type 0} → List ℕ → Table F → Choice G → List Place → List ℕ → Members → FieldFault → Type 0
CaseBreaks this r rest at kind ms f =
    ((kind ≡ this) × RowsBreak r at ms f)
    ⊎ ((kind ≢ this) × ChoiceBreaks rest at kind ms f)

-- ---- rows without values, as the default of laws about arbitrary rows

abbrev pub no_values : {F : Type 0} → Table F
no_values = record { names = []; Reads = λ ms x. ⊥; read = λ at ms. fault at Missing; members = λ x. []; Back = λ x. ⊥ }

pub no_values_exact : {F : Type 0} → IsExact (no_values {F = F})
no_values_exact at ms x = ((λ e. cc), (λ h. absurd h))

abbrev pub no_type : {F : Type 0} → Choice F
no_type = record {
  takes = λ kind. false;
  reported_apart = true;
  names = [];
  Reads = λ kind ms x. ⊥;
  read = λ at kind ms. fault (below at type_name) Missing;
  type_of = λ x. [];
  members = λ x. [];
  Back = λ x. ⊥;
}
