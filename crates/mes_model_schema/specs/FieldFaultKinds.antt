-- The printed names of the reasons of faults.
use Rattle.std.specs.Prelude.{ℕ, List, codes}
use Rattle.mes_model_schema.specs.declared.field.FieldFaultKind.{FieldFaultKind}
use Rattle.mes_model_schema.specs.declared.field.FieldFaultKind.TheVariants.{Missing, Twice, WrongKind, UnknownName, BadBase64, NumberRange, LeftOut}

-- the printed name of a reason
abbrev pub field_fault_kind_name : FieldFaultKind → List ℕ
field_fault_kind_name Missing = codes "Missing"
field_fault_kind_name Twice = codes "Twice"
field_fault_kind_name WrongKind = codes "WrongKind"
field_fault_kind_name UnknownName = codes "UnknownName"
field_fault_kind_name BadBase64 = codes "BadBase64"
field_fault_kind_name NumberRange = codes "NumberRange"
field_fault_kind_name LeftOut = codes "LeftOut"
