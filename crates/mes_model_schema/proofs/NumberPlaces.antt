-- Lemmas: the value or the fault of a JSON number, from its text. Written texts are JSON numbers.
use Rattle.std.proofs.Common.{◌≡◌, ℕ, ◌<◌, ◌^◌, List, sym, subst}
use Rattle.std.specs.Prelude.{Ok, ℤ, FitsSigned, decimal}
use Rattle.std.specs.Fmt.{signed_decimal}
use Rattle.std.specs.Int.{w32}
use Rattle.mes_fixed.specs.declared.fault.NumFault.{NumFault}
use Rattle.mes_fixed.specs.Number.{Numeral, IsNumber}
use Rattle.mes_fixed.specs.Value.{GivesWhole, LacksWhole, GivesSigned, LacksSigned, GivesUnits, LacksUnits, Reads, Refuses}
use Rattle.mes_json.specs.Tree.{Tree}
use Rattle.mes_model_schema.specs.Paths.{Place}
use Rattle.mes_model_schema.specs.Fields.{fault}
use Rattle.mes_model_schema.specs.Leaves.{number_of}
use Rattle.mes_model_schema.specs.Numbers.{whole, signed32, fixed}
use Rattle.mes_model_schema.specs.KindLaws.{number_is}
use Rattle.mes_model_schema.specs.NumberLaws.{lawful_whole, lawful_signed32, lawful_fixed, whole_refused, signed32_refused, fixed_refused}
use Rattle.mes_model_schema.specs.NumberBack.{whole_returns, signed32_returns}
use Rattle.mes_model_schema.specs.declared.field.FieldFaultKind.TheVariants.{NumberRange}

-- ---- the value or fault of an unsigned 64-bit number

pub whole_given : (at : List Place) (t : Tree) (text : List ℕ) (v : ℕ) → number_of at t ≡ Ok text → Reads GivesWhole text v → whole.read at t ≡ Ok v
unfolding whole
whole_given at t text v is gives = lawful_whole.complete at t v (text, number_is at t text is, gives)

pub whole_out_of_range : (at : List Place) (t : Tree) (text : List ℕ) (f : NumFault) → number_of at t ≡ Ok text → Refuses LacksWhole text f
    → whole.read at t ≡ fault at NumberRange
whole_out_of_range at t text f is refused =
    subst (λ (u : Tree). whole.read at u ≡ fault at NumberRange) (sym (number_is at t text is)) (whole_refused at text f refused)

-- ---- the value or fault of a signed 32-bit number

pub signed32_given : (at : List Place) (t : Tree) (text : List ℕ) (v : ℤ) → number_of at t ≡ Ok text → Reads GivesSigned text v → signed32.read at t ≡ Ok v
unfolding signed32
signed32_given at t text v is gives = lawful_signed32.complete at t v (text, number_is at t text is, gives)

pub signed32_out_of_range : (at : List Place) (t : Tree) (text : List ℕ) (f : NumFault) → number_of at t ≡ Ok text → Refuses LacksSigned text f
    → signed32.read at t ≡ fault at NumberRange
signed32_out_of_range at t text f is refused =
    subst (λ (u : Tree). signed32.read at u ≡ fault at NumberRange) (sym (number_is at t text is)) (signed32_refused at text f refused)

-- ---- the value or fault of a decimal number

pub fixed_given : (places : ℕ) (at : List Place) (t : Tree) (text : List ℕ) (v : ℕ) → number_of at t ≡ Ok text → Reads (GivesUnits places) text v
    → (fixed places).read at t ≡ Ok v
unfolding fixed
fixed_given places at t text v is gives = (lawful_fixed places).complete at t v (text, number_is at t text is, gives)

pub fixed_out_of_range : (places : ℕ) (at : List Place) (t : Tree) (text : List ℕ) (f : NumFault) → number_of at t ≡ Ok text
    → Refuses (LacksUnits places) text f → (fixed places).read at t ≡ fault at NumberRange
fixed_out_of_range places at t text f is refused =
    subst (λ (u : Tree). (fixed places).read at u ≡ fault at NumberRange) (sym (number_is at t text is)) (fixed_refused places at text f refused)

-- ---- the written texts are JSON numbers

pub reads_is_number : {X : Type 0} (Gives : Numeral → X → Type 0) (text : List ℕ) (x : X) → Reads Gives text x → IsNumber text
reads_is_number Gives text x reads = (reads.numeral, reads.spells)

pub whole_text : (v : ℕ) → v < 2 ^ 64 → Reads GivesWhole (decimal v) v
unfolding whole
whole_text v small =
    let back = whole_returns v small in
    let same : back.0 ≡ decimal v = cc in
    subst (λ (text : List ℕ). Reads GivesWhole text v) same back.2

pub signed32_text : (v : ℤ) → FitsSigned w32 v → Reads GivesSigned (signed_decimal v) v
unfolding signed32
signed32_text v fits =
    let back = signed32_returns v fits in
    let same : back.0 ≡ signed_decimal v = cc in
    subst (λ (text : List ℕ). Reads GivesSigned text v) same back.2

pub whole_is_number : (v : ℕ) → v < 2 ^ 64 → IsNumber (decimal v)
whole_is_number v small = reads_is_number GivesWhole (decimal v) v (whole_text v small)

pub signed32_is_number : (v : ℤ) → FitsSigned w32 v → IsNumber (signed_decimal v)
signed32_is_number v fits = reads_is_number GivesSigned (signed_decimal v) v (signed32_text v fits)
