-- Prefixes of a record with more bytes after them, and the prefix that a decoder's state
-- represents.
use Rattle.std.proofs.Common.{◌≡◌, ℕ, None, ◌+◌, ◌-◌, ◌*◌, ◌^◌, ◌<◌, ◌≤◌, min, List, [], ◌∷◌, ◌++◌, length, take, refl, ap, sym, ◌∙◌, inl, inr, append_assoc, arith, length-append}
use Rattle.std.proofs.lemmas.Bool.Decides.{nat_tests}
use Rattle.std.proofs.lemmas.Grind.{common_steps}
use Rattle.std.proofs.lemmas.Int.Digits.{digits_push, digits_value_push}
use Rattle.std.specs.Char.{digit_value}
use Rattle.mes_frame.specs.Record.{DataBegun, Begun}
use Rattle.mes_frame.specs.RecordState.{SizeKept, PhaseRepresents, RecordStands, limit_of, fault_at, fault_of, remaining_at, remaining_of}
use Rattle.mes_frame.specs.declared.record.Phase.{Phase}
use Rattle.mes_frame.specs.declared.record.Phase.TheVariants.{Size, Data, Failed}
use Rattle.mes_frame.specs.declared.record.RecordState.{RecordState}

-- the bytes '0' to '9' are the decimal digits, with values below 10
pub digit_in_range : (b : ℕ) → 48 ≤ b → b ≤ 57 → digit_value b < 10
digit_in_range b low high = grind (arith, nat_tests)

pub digit_value_is : (b : ℕ) → digit_value b < 10 → digit_value b ≡ b - 48
digit_value_is b digit = grind (arith, nat_tests)

pub digit_kept : (digits value times digit new b : ℕ) (x r : List ℕ) → SizeKept digits value x r → digits < 20 → digit_value b < 10 → times ≡ min (value * 10) (2 ^ 32 - 1) → digit ≡ b - 48 → new ≡ min (times + digit) (2 ^ 32 - 1) → SizeKept (digits + 1) new (x ++ b ∷ []) r
digit_kept digits value times digit new b x r kept remaining decimal times-is digit-is new-is =
    let len = length-append x (b ∷ []) in
    let sum = digits_value_push 10 x b in
    let is = digit_value_is b decimal in
    record {
      begun = record { digits = digits_push 10 x b kept.begun.digits decimal; few = omega arith };
      count = omega arith;
      capped = omega arith;
      empty = kept.empty;
    }

-- fewer data bytes than are to come leave a record unfinished
pub data_goes_on : (x r p : List ℕ) (left limit : ℕ) → DataBegun x r left limit → length p < left → DataBegun (x ++ p) (r ++ p) (left - length p) limit
data_goes_on x r p left limit begun short =
    let len = length-append r p in
    record {
      size = begun.size;
      is_size = begun.is_size;
      spelt = ap (λ (y : List ℕ). y ++ p) begun.spelt ∙ append_assoc begun.size (10 ∷ r) p;
      value = let value = begun.value in omega arith;
      within = begun.within;
      some = omega arith;
    }

data_some : (x r : List ℕ) (left limit : ℕ) → DataBegun x r left limit → x ≡ [] → ⊥
data_some x r left limit begun empty =
    let len = length-append begun.size (10 ∷ r) in
    let same : length {A = ℕ} [] ≡ length (begun.size ++ 10 ∷ r) = ap length (sym empty ∙ begun.spelt) in
    omega arith

-- in the phase `Data`, the state represents an unfinished record with its size line
pub begun_in_data : (s : RecordState) (x r : List ℕ) (left : ℕ) → s.phase ≡ Data left → RecordStands s x r → x ≡ [] → ⊥
unfolding RecordStands
begun_in_data s x r left at represents = data_some x r left s.limit (rw at at represents)

data_front : (x r p : List ℕ) (k left limit : ℕ) → DataBegun x r left limit → length p ≤ left → k < length p → Begun (x ++ take k p) (r ++ take k p) limit
data_front x r p k left limit begun within front =
    let len : length (take k p) ≡ k = grind (arith, common_steps) in
    inr (left - length (take k p), data_goes_on x r (take k p) left limit begun (omega arith))

front_at : (phase : Phase) (limit : ℕ) (x r p : List ℕ) (k : ℕ) → PhaseRepresents phase limit x r → length p ≤ remaining_at phase → k < length p → Begun (x ++ take k p) (r ++ take k p) limit
front_at (Size digits value) limit x r p k represents within front = absurd (omega arith)
front_at (Data left) limit x r p k represents within front = data_front x r p k left limit represents within front
front_at (Failed fault) limit x r p k represents within front = absurd represents

-- every prefix of the skipped data leaves an unfinished record
pub front_of : (s : RecordState) (x r p : List ℕ) (k count : ℕ) → count ≤ remaining_of s → length p ≡ count → k < count → RecordStands s x r → Begun (x ++ take k p) (r ++ take k p) (limit_of s)
unfolding RecordStands
front_of s x r p k count within len front represents = front_at s.phase s.limit x r p k represents (omega arith) (omega arith)

begun_at : (p : Phase) (limit : ℕ) (x r : List ℕ) → PhaseRepresents p limit x r → Begun x r limit
begun_at (Size digits value) limit x r represents = inl (represents.begun, represents.empty)
begun_at (Data left) limit x r represents = inr (left, represents)
begun_at (Failed fault) limit x r represents = absurd represents

-- the bytes that a state represents are an unfinished record
pub begun_of : (s : RecordState) (x r : List ℕ) → RecordStands s x r → Begun x r (limit_of s)
unfolding RecordStands
begun_of s x r represents = begun_at s.phase s.limit x r represents

room_begun : (p : Phase) (limit : ℕ) (x r : List ℕ) → PhaseRepresents p limit x r → 0 < remaining_at p → DataBegun x r (remaining_at p) limit
room_begun (Size digits value) limit x r represents some = absurd (omega arith)
room_begun (Data left) limit x r represents some = represents
room_begun (Failed fault) limit x r represents some = absurd represents

-- `remaining_of` is the number of data bytes to come
pub begun_room : (s : RecordState) (x r : List ℕ) → RecordStands s x r → 0 < remaining_of s → DataBegun x r (remaining_of s) (limit_of s)
unfolding RecordStands
begun_room s x r represents some = room_begun s.phase s.limit x r represents some

no_fault_at : (p : Phase) (limit : ℕ) (x r : List ℕ) → PhaseRepresents p limit x r → fault_at p ≡ None
no_fault_at (Size digits value) limit x r represents = refl
no_fault_at (Data left) limit x r represents = refl
no_fault_at (Failed fault) limit x r represents = absurd represents

-- a state that represents bytes has returned no fault
pub no_fault_of : (s : RecordState) (x r : List ℕ) → RecordStands s x r → fault_of s ≡ None
unfolding RecordStands
no_fault_of s x r represents = no_fault_at s.phase s.limit x r represents
