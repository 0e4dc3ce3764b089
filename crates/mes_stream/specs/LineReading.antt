-- The reading of any bytes as JSON Lines.
use Rattle.std.specs.Prelude.{◌≡◌, ℕ, List, ◌∷◌, ◌++◌}
use Rattle.mes_stream.specs.declared.record_error.RecordError.{RecordError}
use Rattle.mes_stream.specs.JsonLines.{LinesLive, LinesShow}
use Rattle.mes_stream.specs.PlainReading.{PlainReading, Goes, Stops}

-- the bytes w have the given reading
abbrev pub ReadsLines : {E : Type 0} → (List ℕ → E → Type 0) → (List ℕ → RecordError → Type 0) → ℕ → ℕ → List ℕ → PlainReading E → Type 0
ReadsLines spells breaks ahead limit w (Goes values) = LinesLive spells limit w values
ReadsLines spells breaks ahead limit w (Stops front byte values fault) =
    (rest : List ℕ) × (w ≡ front ++ byte ∷ rest) × LinesShow spells breaks ahead limit front values byte fault
