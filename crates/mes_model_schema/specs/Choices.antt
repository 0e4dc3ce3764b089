-- The member `type`, and the members that depend on its value.
use Rattle.std.specs.Prelude.{◌≡◌, ◌≢◌, ◌⊎◌, ℕ, Bool, true, false, ◌||◌, ◌&&◌, not, List, [], ◌∷◌, bytes_eq, codes, if◌then◌else◌, Result, Ok}
use Rattle.std.proofs.Common.{inl, inr}
use Rattle.mes_json.specs.Tree.{Tree, Members}
use Rattle.mes_json.specs.Tree.Tree.{string}
use Rattle.mes_model_schema.specs.Paths.{Place}
use Rattle.mes_model_schema.specs.Fields.{is_in, Has, below, fault}
use Rattle.mes_model_schema.specs.Kinds.{◌>>=◌}
use Rattle.mes_model_schema.specs.Leaves.{texts}
use Rattle.mes_model_schema.specs.NameLaws.{distinct, united}
use Rattle.mes_model_schema.specs.Rows.{Table, required}
use Rattle.mes_model_schema.specs.declared.field.FieldFault.{FieldFault}
use Rattle.mes_model_schema.specs.declared.field.FieldFaultKind.{FieldFaultKind}

-- A choice: how the members of an object are read and written, given its type.
pub record Choice (F : Type 0) : Type 1 where
  -- the type is known
  pub takes : List ℕ → Bool
  -- the types are distinct, and the member names of each type are distinct
  pub reported_apart : Bool
  -- the names of the members that are read under at least one type
  pub names : List (List ℕ)
  -- given the type of an object, its members are read as x
  pub Reads : List ℕ → Members → F → Type 0
  -- given the path and the type of an object, the value of its members, or the first fault
  pub read : List Place → List ℕ → Members → Result F FieldFault
  -- the type of x, and the members other than `type` that x is written as
  pub type_of : F → List ℕ
  pub members : F → List (List ℕ × Tree)
  -- each value in x is read back from its own tree
  pub Back : F → Type 0

abbrev pub type_name : List ℕ
type_name = codes "type"

-- the choice in which no other type is known: any type is a fault, for this reason
abbrev pub no_other : FieldFaultKind → Choice ⊥
no_other why = record {
  takes = λ kind. false;
  reported_apart = true;
  names = [];
  Reads = λ kind ms x. ⊥;
  read = λ at kind ms. fault (below at type_name) why;
  type_of = λ x. [];
  members = λ x. [];
  Back = λ x. ⊥;
}

-- the choice in which any other type is retained as its name, and no member is read or written
abbrev pub others : List (List ℕ) → Choice (List ℕ)
others known = record {
  takes = λ kind. not (is_in kind known);
  reported_apart = true;
  names = [];
  Reads = λ kind ms x. kind ≡ x;
  read = λ at kind ms. Ok kind;
  type_of = λ x. x;
  members = λ x. [];
  Back = λ x. is_in x known ≡ false;
}

-- the choice with this table for this type, and another choice for other types; two types may share
-- a member name
abbrev pub case : {F G : Type 0} → List ℕ → Table F → Choice G → Choice (F ⊎ G)
case {F} {G} this r rest = record {
  takes = λ kind. bytes_eq this kind || rest.takes kind;
  reported_apart = not (rest.takes this) && (distinct r.names && rest.reported_apart);
  names = united r.names rest.names;
  Reads = CaseReads;
  read = λ at kind ms. if bytes_eq kind this then (r.read at ms >>= λ x. Ok (inl x)) else (rest.read at kind ms >>= λ y. Ok (inr y));
  type_of = case_type;
  members = case_members;
  Back = CaseBack;
} where
  CaseReads : List ℕ → Members → F ⊎ G → Type 0
  CaseReads kind ms (inl x) = (kind ≡ this) × r.Reads ms x
  CaseReads kind ms (inr y) = (kind ≢ this) × rest.Reads kind ms y

  case_type : F ⊎ G → List ℕ
  case_type (inl x) = this
  case_type (inr y) = rest.type_of y

  case_members : F ⊎ G → List (List ℕ × Tree)
  case_members (inl x) = r.members x
  case_members (inr y) = rest.members y

  CaseBack : F ⊎ G → Type 0
  CaseBack (inl x) = r.Back x
  CaseBack (inr y) = rest.Back y

-- the table with the required row `type` and the rows of the type
abbrev pub typed : {F : Type 0} → Choice F → Table F
typed c = record {
  names = type_name ∷ c.names;
  Reads = λ ms x. (kind : List ℕ) × Has ms type_name (string kind) × c.Reads kind ms x;
  read = λ at ms. required type_name texts at ms >>= λ kind. c.read at kind ms;
  members = λ x. (type_name, string (c.type_of x)) ∷ c.members x;
  Back = c.Back;
}
