-- The table of a message: which members each row reads and writes, and with which value.
use Rattle.std.specs.Prelude.{◌≡◌, ◌⊎◌, ℕ, Bool, true, false, List, [], ◌∷◌, ◌++◌, Option, Some, None, Result, Ok}
use Rattle.mes_json.specs.Tree.{Tree, Members}
use Rattle.mes_json.specs.Tree.Tree.{object}
use Rattle.mes_json.specs.Tree.Members.{no_members}
use Rattle.mes_json.specs.View.{members_of}
use Rattle.mes_model_schema.specs.Paths.{Place}
use Rattle.mes_model_schema.specs.Fields.{Has, Lacks, below, fault, lookup}
use Rattle.mes_model_schema.specs.Kinds.{Kind, Returns, ◌>>=◌}
use Rattle.mes_model_schema.specs.Leaves.{members_at}
use Rattle.mes_model_schema.specs.Lists.{list_of}
use Rattle.mes_model_schema.specs.declared.field.FieldFault.{FieldFault}
use Rattle.mes_model_schema.specs.declared.field.FieldFaultKind.TheVariants.{Missing}

-- A table: how the members of an object are read as a value of type F, and how it is written.
pub record Table (F : Type 0) : Type 1 where
  -- the names of the members that are read
  pub names : List (List ℕ)
  -- the members are read as x
  pub Reads : Members → F → Type 0
  -- given the path of an object, the value of its members, or the first fault
  pub read : List Place → Members → Result F FieldFault
  -- the members that x is written as
  pub members : F → List (List ℕ × Tree)
  -- each value in x is read back from its own tree
  pub Back : F → Type 0

-- ---- the row of a required member

abbrev pub must : {V : Type 0} → Kind V → List Place → Option Tree → Result V FieldFault
must k at None = fault at Missing
must k at (Some t) = k.read at t

unfoldable pub required : {V : Type 0} → List ℕ → Kind V → List Place → Members → Result V FieldFault
required n k at ms = lookup at n ms >>= must k (below at n)

abbrev pub need : {V : Type 0} → List ℕ → Kind V → Table V
need {V} n k = record {
  names = n ∷ [];
  Reads = λ ms v. (t : Tree) × Has ms n t × k.Reads t v;
  read = required n k;
  members = λ v. (n, k.tree v) ∷ [];
  Back = λ v. Returns k v;
}

-- ---- the row of an optional member

abbrev pub HasSome : {V : Type 0} → List ℕ → Kind V → Members → Option V → Type 0
HasSome n k ms None = Lacks ms n
HasSome n k ms (Some v) = (t : Tree) × Has ms n t × k.Reads t v

abbrev pub likewise : {V : Type 0} → Kind V → List Place → Option Tree → Result (Option V) FieldFault
likewise k at None = Ok None
likewise k at (Some t) = k.read at t >>= λ v. Ok (Some v)

unfoldable pub optional : {V : Type 0} → List ℕ → Kind V → List Place → Members → Result (Option V) FieldFault
optional n k at ms = lookup at n ms >>= likewise k (below at n)

abbrev pub some_member : {V : Type 0} → List ℕ → Kind V → Option V → List (List ℕ × Tree)
some_member n k None = []
some_member n k (Some v) = (n, k.tree v) ∷ []

abbrev pub ReturnsSome : {V : Type 0} → Kind V → Option V → Type 0
ReturnsSome k None = Unit {0}
ReturnsSome k (Some v) = Returns k v

abbrev pub maybe : {V : Type 0} → List ℕ → Kind V → Table (Option V)
maybe {V} n k = record {
  names = n ∷ [];
  Reads = HasSome n k;
  read = optional n k;
  members = some_member n k;
  Back = ReturnsSome k;
}

-- ---- the row of a list, which is empty if its member is absent

abbrev pub listed : {V : Type 0} → Kind V → List Place → Option Tree → Result (List V) FieldFault
listed k at None = Ok []
listed k at (Some t) = (list_of k).read at t

unfoldable pub repeated : {V : Type 0} → List ℕ → Kind V → List Place → Members → Result (List V) FieldFault
repeated n k at ms = lookup at n ms >>= listed k (below at n)

abbrev pub list_member : {V : Type 0} → List ℕ → Kind V → List V → List (List ℕ × Tree)
list_member n k [] = []
list_member n k (v ∷ vs) = (n, (list_of k).tree (v ∷ vs)) ∷ []

abbrev pub ReturnsEach : {V : Type 0} → Kind V → List V → Type 0
ReturnsEach k [] = Unit {0}
ReturnsEach k (v ∷ vs) = Returns k v × ReturnsEach k vs

abbrev pub many : {V : Type 0} → List ℕ → Kind V → Table (List V)
many {V} n k = record {
  names = n ∷ [];
  Reads = λ ms vs. (Lacks ms n × (vs ≡ [])) ⊎ ((t : Tree) × Has ms n t × (list_of k).Reads t vs);
  read = repeated n k;
  members = list_member n k;
  Back = ReturnsEach k;
}

-- ---- the row of a flag: an object that is present or absent, and whose members are ignored

abbrev pub IsFlag : List ℕ → Members → Bool → Type 0
IsFlag n ms false = Lacks ms n
IsFlag n ms true = (os : Members) × Has ms n (object os)

abbrev pub is_there : List Place → Option Tree → Result Bool FieldFault
is_there at None = Ok false
is_there at (Some t) = members_at at t >>= λ os. Ok true

unfoldable pub flagged : List ℕ → List Place → Members → Result Bool FieldFault
flagged n at ms = lookup at n ms >>= is_there (below at n)

abbrev pub flag_member : List ℕ → Bool → List (List ℕ × Tree)
flag_member n false = []
flag_member n true = (n, object no_members) ∷ []

abbrev pub flag : List ℕ → Table Bool
flag n = record {
  names = n ∷ [];
  Reads = IsFlag n;
  read = flagged n;
  members = flag_member n;
  Back = λ x. Unit {0};
}

-- ---- tables of no rows, of consecutive rows, and of converted values; messages

-- the table without rows
abbrev pub no_rows : Table (Unit {0})
no_rows = record { names = []; Reads = λ ms x. Unit {0}; read = λ at ms. Ok tt; members = λ x. []; Back = λ x. Unit {0} }

-- the table of the first rows followed by the second rows
infixr 4 ◌⨾◌
abbrev pub ◌⨾◌ : {F G : Type 0} → Table F → Table G → Table (F × G)
r ⨾ s = record {
  names = r.names ++ s.names;
  Reads = λ ms x. r.Reads ms x.0 × s.Reads ms x.1;
  read = λ at ms. r.read at ms >>= λ x. s.read at ms >>= λ y. Ok (x, y);
  members = λ x. r.members x.0 ++ s.members x.1;
  Back = λ x. r.Back x.0 × s.Back x.1;
}

-- the table with its values converted between F and G
abbrev pub mapped : {F G : Type 0} → Table F → (F → G) → (G → F) → Table G
mapped {F} r to from = record {
  names = r.names;
  Reads = λ ms y. (x : F) × r.Reads ms x × (to x ≡ y);
  read = λ at ms. r.read at ms >>= λ x. Ok (to x);
  members = λ y. r.members (from y);
  Back = λ y. r.Back (from y);
}

-- the kind of objects with this table; members of other names are ignored
abbrev pub message : {V : Type 0} → Table V → Kind V
message r = record {
  Reads = λ t v. (ms : Members) × (t ≡ object ms) × r.Reads ms v;
  read = λ at t. members_at at t >>= λ ms. r.read at ms;
  tree = λ v. object (members_of (r.members v));
}
