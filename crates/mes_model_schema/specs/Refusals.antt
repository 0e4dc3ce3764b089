-- The error that is returned for an invalid value.
use Rattle.std.specs.Prelude.{◌≡◌}
use Rattle.mes_model_schema.specs.declared.field.FieldFault.{FieldFault}
use Rattle.mes_model_schema.specs.declared.part.PartFault.{PartFault}
use Rattle.mes_model_schema.specs.declared.part.PartFault.TheVariants.{Field, NoMemory}

-- the error is this fault, or `NoMemory`
abbrev pub Reports : FieldFault → PartFault → Type 0
Reports f (Field g) = g ≡ f
Reports f NoMemory = Unit {0}
