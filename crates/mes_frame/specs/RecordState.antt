-- The bytes that a state of the decoder of records represents.
use Rattle.std.specs.Prelude.{◌≡◌, ℕ, ◌-◌, ◌^◌, ◌<◌, min, Bool, true, false, List, [], ◌∷◌, ◌++◌, length, Option, None, Some}
use Rattle.std.specs.Str.Parse.{digits_value}
use Rattle.mes_frame.specs.Record.{SizeBegun, DataBegun, IsRecord, SizeShows}
use Rattle.mes_frame.specs.declared.fault.FrameFault.{FrameFault}
use Rattle.mes_frame.specs.declared.record.Phase.{Phase}
use Rattle.mes_frame.specs.declared.record.Phase.TheVariants.{Size, Data, Failed}
use Rattle.mes_frame.specs.declared.record.RecordOut.{RecordOut}
use Rattle.mes_frame.specs.declared.record.RecordOut.TheVariants.{Quiet, Empty, Byte, Fault}
use Rattle.mes_frame.specs.declared.record.RecordState.{RecordState}

-- the maximum number of bytes of a record's data
abbrev pub limit_of : RecordState → ℕ
limit_of s = s.limit

-- the fault, if the phase is that after a fault
abbrev pub fault_at : Phase → Option FrameFault
fault_at (Size digits value) = None
fault_at (Data left) = None
fault_at (Failed fault) = Some fault

-- the fault that every further step returns
abbrev pub fault_of : RecordState → Option FrameFault
fault_of s = fault_at s.phase

-- in the given phase, the number of data bytes that come next
abbrev pub remaining_at : Phase → ℕ
remaining_at (Size digits value) = 0
remaining_at (Data left) = left
remaining_at (Failed fault) = 0

abbrev pub remaining_of : RecordState → ℕ
remaining_of s = remaining_at s.phase

-- the state of a size line: the number of its digits x, and their value capped at 2^32 - 1
pub record SizeKept (digits value : ℕ) (x r : List ℕ) : Type 0 where
  pub begun : SizeBegun x
  pub count : digits ≡ length x
  pub capped : value ≡ min (digits_value 10 x) (2 ^ 32 - 1)
  pub empty : r ≡ []

-- the phase represents the unfinished record x with the data r
abbrev pub PhaseRepresents : Phase → ℕ → List ℕ → List ℕ → Type 0
PhaseRepresents (Size digits value) limit x r = SizeKept digits value x r
PhaseRepresents (Data left) limit x r = DataBegun x r left limit
PhaseRepresents (Failed fault) limit x r = ⊥

-- the state represents x, the bytes since the last record, and r, the data in x
unfoldable pub RecordStands : RecordState → List ℕ → List ℕ → Type 0
RecordStands s x r = PhaseRepresents s.phase s.limit x r

abbrev pub state_at : ℕ → Phase → RecordState
state_at limit phase = record { limit = limit; phase = phase }

-- the meaning of the result for the byte b after x with the data r, and the new state
abbrev pub RecordSteps : RecordState → List ℕ → List ℕ → ℕ → RecordOut → Type 0
RecordSteps new x r b Quiet = RecordStands new (x ++ b ∷ []) r × (r ≡ [])
RecordSteps new x r b Empty = IsRecord (x ++ b ∷ []) r (limit_of new) × (r ≡ []) × RecordStands new [] []
RecordSteps new x r b (Byte false) = RecordStands new (x ++ b ∷ []) (r ++ b ∷ [])
RecordSteps new x r b (Byte true) = IsRecord (x ++ b ∷ []) (r ++ b ∷ []) (limit_of new) × RecordStands new [] []
RecordSteps new x r b (Fault fault) = SizeShows x b (limit_of new) fault × (fault_of new ≡ Some fault)

-- a byte is data if and only if `remaining` was not 0 before it
abbrev pub OutWith : ℕ → RecordOut → Type 0
OutWith remaining Quiet = remaining ≡ 0
OutWith remaining Empty = remaining ≡ 0
OutWith remaining (Byte last) = 0 < remaining
OutWith remaining (Fault fault) = remaining ≡ 0

-- skipping the data p after x with the data r: the flag says if the record ended
abbrev pub RecordPasses : RecordState → List ℕ → List ℕ → List ℕ → Bool → Type 0
RecordPasses new x r p false = RecordStands new (x ++ p) (r ++ p)
RecordPasses new x r p true = IsRecord (x ++ p) (r ++ p) (limit_of new) × RecordStands new [] []
