-- Lemmas: the error that a function made for a fault is an allowed result (`Gives`, `Refuses`).
use Rattle.std.proofs.Common.{◌≡◌}
use Rattle.std.specs.Prelude.{Result, Err}
use Rattle.mes_model_schema.specs.Parts.{Gives, Refuses}
use Rattle.mes_model_schema.specs.Refusals.{Reports}
use Rattle.mes_model_schema.specs.declared.field.FieldFault.{FieldFault}
use Rattle.mes_model_schema.specs.declared.part.PartFault.{PartFault}
use Rattle.mes_model_schema.specs.declared.part.PartFault.TheVariants.{Field, NoMemory}

-- an error made for the expected fault is an allowed result
pub gives_told : {V : Type 0} (expected : Result V FieldFault) (f : FieldFault) (e : PartFault) → Reports f e → expected ≡ Err f → Gives {V = V} expected (Err e)
gives_told expected f (Field g) reported is = cc
gives_told expected f NoMemory reported is = tt

-- an error made for the expected fault is also an allowed refusal
pub refuses_told : {V : Type 0} (expected : Result V FieldFault) (f : FieldFault) (e : PartFault) → Reports f e → expected ≡ Err f → Refuses expected e
refuses_told expected f (Field g) reported is = cc
refuses_told expected f NoMemory reported is = (f, is)

-- an allowed refusal is an allowed result
pub gives_refused : {V : Type 0} (expected : Result V FieldFault) (e : PartFault) → Refuses expected e → Gives {V = V} expected (Err e)
gives_refused expected (Field f) refused = refused
gives_refused expected NoMemory refused = tt
