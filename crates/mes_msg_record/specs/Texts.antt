-- The value that the bytes of a record represent, and the canonical text of a value.
use Rattle.std.specs.Prelude.{ℕ, ◌<◌, ◌≤◌, List, [], length}
use Rattle.mes_model_schema.specs.Tree.{Tree, depth}
use Rattle.mes_model_schema.specs.Canonical.{canonical}
use Rattle.mes_model_schema.specs.Grammar.{IsText}
use Rattle.mes_model_schema.specs.Place.{IsFault}
use Rattle.mes_model_schema.specs.JsonLimits.{MAX_NESTING}
use Rattle.mes_model_schema.specs.Kinds.{Kind, Breaks}
use Rattle.mes_model_schema.specs.declared.field.FieldFault.{FieldFault}
use Rattle.mes_msg_record.specs.declared.record.RecordFault.{RecordFault}
use Rattle.mes_msg_record.specs.declared.canon.EncodeFault.{EncodeFault}
use Rattle.mes_msg_record.specs.declared.canon.EncodeFault.TheVariants.{TooDeep, TooLarge, NoMemory}

-- ---- the value or the fault of the bytes

-- the bytes are a JSON text of the value
abbrev pub IsTextOf : {V : Type 0} → Kind V → List ℕ → V → Type 0
IsTextOf k b v = (t : Tree) × IsText MAX_NESTING b t × k.Reads t v

-- the bytes are a JSON text of a tree that is no value of the kind, and the last argument is the
-- first fault of the tree
abbrev pub BreaksText : {V : Type 0} → Kind V → List ℕ → FieldFault → Type 0
BreaksText k b f = (t : Tree) × IsText MAX_NESTING b t × Breaks k [] t f

-- the fault of bytes that are not a text of a value; `NoMemory` states nothing about the bytes
abbrev pub IsFaultOf : {V : Type 0} → Kind V → List ℕ → RecordFault → Type 0
IsFaultOf k b (RecordFault.Text f) = IsFault MAX_NESTING b f
IsFaultOf k b (RecordFault.Field f) = BreaksText k b f
IsFaultOf k b RecordFault.NoMemory = Unit {0}

-- ---- the canonical text, or the reason for which there is none

-- the canonical text of the tree that the value is written as
abbrev pub canonical_of : {V : Type 0} → Kind V → V → List ℕ
canonical_of k v = canonical (k.tree v)

-- the value nests at most MAX_NESTING deep
abbrev pub NestsFew : {V : Type 0} → Kind V → V → Type 0
NestsFew k v = depth (k.tree v) ≤ MAX_NESTING

-- the value has a canonical text of at most this number of bytes, nested at most MAX_NESTING deep
abbrev pub Fits : {V : Type 0} → Kind V → V → ℕ → Type 0
Fits k v limit = NestsFew k v × (length (canonical_of k v) ≤ limit)

-- the reason for which there is no text within the limit; `NoMemory` states nothing about the value
abbrev pub IsRefusalOf : {V : Type 0} → Kind V → V → ℕ → EncodeFault → Type 0
IsRefusalOf k v limit TooDeep = MAX_NESTING < depth (k.tree v)
IsRefusalOf k v limit TooLarge = NestsFew k v × (limit < length (canonical_of k v))
IsRefusalOf k v limit NoMemory = Unit {0}
