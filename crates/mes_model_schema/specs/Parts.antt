-- The results that the functions which read a value may return.
use Rattle.std.specs.Prelude.{◌≡◌, List, Result, Ok, Err}
use Rattle.mes_json.specs.Tree.{Tree}
use Rattle.mes_model_schema.specs.Kinds.{Kind, Breaks}
use Rattle.mes_model_schema.specs.Paths.{Place}
use Rattle.mes_model_schema.specs.declared.field.FieldFault.{FieldFault}
use Rattle.mes_model_schema.specs.declared.part.PartFault.{PartFault}
use Rattle.mes_model_schema.specs.declared.part.PartFault.TheVariants.{Field, NoMemory}

-- the result is the expected value or fault, or `NoMemory`
abbrev pub Gives : {V : Type 0} → Result V FieldFault → Result V PartFault → Type 0
Gives expected (Ok v) = expected ≡ Ok v
Gives expected (Err (Field f)) = expected ≡ Err f
Gives expected (Err NoMemory) = Unit {0}

-- a fault is expected, and the error is that fault, or `NoMemory` because it was not allocated
abbrev pub Refuses : {V : Type 0} → Result V FieldFault → PartFault → Type 0
Refuses expected (Field f) = expected ≡ Err f
Refuses expected NoMemory = (f : FieldFault) × (expected ≡ Err f)

-- the result is mapped to the expected value, or its error is related to the fault by `Refuses`
abbrev pub Shows : {X V : Type 0} → (X → V) → Result V FieldFault → Result X PartFault → Type 0
Shows view expected (Ok x) = expected ≡ Ok (view x)
Shows view expected (Err e) = Refuses expected e

-- the error is the first fault of the tree at the path, or `NoMemory`
abbrev pub IsFirstFault : {V : Type 0} → Kind V → List Place → Tree → PartFault → Type 0
IsFirstFault k at t (Field f) = Breaks k at t f
IsFirstFault k at t NoMemory = Unit {0}
