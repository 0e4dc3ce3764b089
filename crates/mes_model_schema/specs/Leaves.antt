-- The kinds without a table of members: strings, booleans, retained objects, unsupported values.
use Rattle.std.specs.Prelude.{◌≡◌, ℕ, Bool, List, Option, Some, None, Result, Ok}
use Rattle.mes_json.specs.Tree.{Tree, Members}
use Rattle.mes_json.specs.Tree.Tree.{null, boolean, string, object}
use Rattle.mes_json.specs.Cursor.{as_bool, as_number, as_text, as_members}
use Rattle.mes_model_schema.specs.Paths.{Place}
use Rattle.mes_model_schema.specs.Fields.{fault}
use Rattle.mes_model_schema.specs.Kinds.{Kind}
use Rattle.mes_model_schema.specs.declared.field.FieldFault.{FieldFault}
use Rattle.mes_model_schema.specs.declared.field.FieldFaultKind.TheVariants.{WrongKind, LeftOut}

-- the value in the `Option`, or the fault `WrongKind` for `None`
abbrev pub expected : {V : Type 0} → List Place → Option V → Result V FieldFault
expected at None = fault at WrongKind
expected at (Some v) = Ok v

-- the text of a string, or the fault of another tree
abbrev pub text_of : List Place → Tree → Result (List ℕ) FieldFault
text_of at t = expected at (as_text t)

-- the text of a number, as it is written, or the fault of another tree
abbrev pub number_of : List Place → Tree → Result (List ℕ) FieldFault
number_of at t = expected at (as_number t)

abbrev pub boolean_of : List Place → Tree → Result Bool FieldFault
boolean_of at t = expected at (as_bool t)

-- the members of an object, or the fault of another tree
abbrev pub members_at : List Place → Tree → Result Members FieldFault
members_at at t = expected at (as_members t)

-- the kind of strings; the value is the text
unfoldable pub texts : Kind (List ℕ)
texts = record { Reads = λ t s. t ≡ string s; read = text_of; tree = λ s. string s }

-- the kind of booleans
unfoldable pub booleans : Kind Bool
booleans = record { Reads = λ t x. t ≡ boolean x; read = boolean_of; tree = λ x. boolean x }

-- the kind of objects that are retained; the value is the members
unfoldable pub objects : Kind Members
objects = record { Reads = λ t ms. t ≡ object ms; read = members_at; tree = λ ms. object ms }

-- the kind of unsupported members, which has no values
unfoldable pub left_out : Kind ⊥
left_out = record { Reads = λ t v. ⊥; read = λ at t. fault at LeftOut; tree = λ v. null }
