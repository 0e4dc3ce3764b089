-- What the end of a record appends to a list of values.
use Rattle.std.specs.Prelude.{◌≡◌, ℕ, ◌⊎◌, List, [], ◌∷◌, ◌++◌, Result, Ok, Err}
use Rattle.mes_stream.specs.declared.record_error.RecordError.{RecordError}
use Rattle.mes_stream.specs.declared.record_error.RecordError.TheVariants.{NoMemory}

-- `why` is the reason no value was appended: the data r have no value, or the list could not grow
abbrev pub IsRefused : {E : Type 0} → (List ℕ → E → Type 0) → (List ℕ → RecordError → Type 0) → List ℕ → RecordError → Type 0
IsRefused {E = E} spells breaks r why = breaks r why ⊎ ((why ≡ NoMemory) × ((value : E) × spells r value))

-- the value of the data r was appended to the list; or the list is unchanged, for the reason `why`
abbrev pub AddsValue : {E T : Type 0} → (List ℕ → E → Type 0) → (List ℕ → RecordError → Type 0) → Type 0 → List ℕ → List E → List E → Result T RecordError → Type 0
AddsValue {E = E} spells breaks IsReady r old new (Ok done) = (value : E) × spells r value × (new ≡ old ++ value ∷ [])
AddsValue {E = E} spells breaks IsReady r old new (Err why) =
    (breaks r why ⊎ ((why ≡ NoMemory) × ((value : E) × spells r value) × IsReady)) × (new ≡ old)
