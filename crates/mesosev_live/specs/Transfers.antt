-- One read or write of a ready device.
use Rattle.std.specs.Prelude.{◌≡◌, ℕ, ◌<◌, ◌≤◌, ◌⊎◌, List, [], ◌++◌, length, take, drop, Result, Ok, Err}
use Rattle.std.specs.Io.KnownBytes.{Keeps, Appends, Consumes, IsAtEnd}
use Rattle.mes_frame.specs.Counts.{up}
use Rattle.mes_frame.specs.Devices.{Device}
use Rattle.mesosev_live.specs.declared.transfer.Came.{Came}
use Rattle.mesosev_live.specs.declared.transfer.Came.TheVariants as came
use Rattle.mesosev_live.specs.declared.transfer.Went.{Went}
use Rattle.mesosev_live.specs.declared.transfer.Went.TheVariants as went

-- the device was called once, and its call did not fail
abbrev pub Succeeds : Device → Device → Type 0
Succeeds old new = (new.counts.calls ≡ up old.counts.calls 1) × (new.counts.failures ≡ old.counts.failures)

-- the device was called once, and its call failed
abbrev pub Fails : Device → Device → Type 0
Fails old new = (new.counts.calls ≡ up old.counts.calls 1) × (new.counts.failures ≡ up old.counts.failures 1)

-- one call read `piece`: its bytes, at least one; or no byte, because the call was interrupted
abbrev pub Reads : Device → Device → List ℕ → Type 0
Reads old new piece =
    Consumes old.bytes new.bytes piece
    × (((0 < length piece) × Succeeds old new) ⊎ ((piece ≡ []) × Fails old new))

-- one call read no byte: the device has none now, or is at its end, or failed
abbrev pub ReadsNone : Device → Device → Came → Type 0
ReadsNone old new came.Bytes = ⊥
ReadsNone old new came.Nothing = Keeps old.bytes new.bytes × Fails old new
ReadsNone old new came.End = Keeps old.bytes new.bytes × IsAtEnd new.bytes × Succeeds old new
ReadsNone old new came.Failure = Keeps old.bytes new.bytes × Fails old new

-- the bytes not taken before and after a read; without memory for its bytes they are lost
abbrev pub Takes : {E : Type 0} → Device → Device → List ℕ → List ℕ → Result Came E → Type 0
Takes old new before after (Ok came.Bytes) = (piece : List ℕ) × Reads old new piece × (after ≡ before ++ piece)
Takes old new before after (Ok outcome) = ReadsNone old new outcome × (after ≡ before)
Takes old new before after (Err failed) = (piece : List ℕ) × Reads old new piece × (after ≡ before)

-- like `Takes`, but what was read is discarded
abbrev pub Discards : Device → Device → Came → Type 0
Discards old new came.Bytes = (piece : List ℕ) × Reads old new piece
Discards old new outcome = ReadsNone old new outcome

-- the outcome of a read that failed is not the end
abbrev pub CameAfter : Came → Type 0
CameAfter came.End = ⊥
CameAfter outcome = Unit {0}

-- One call wrote the first n bytes, at least one; or none, because the call was interrupted. Or
-- the device takes none now, or failed.
abbrev pub Puts : Device → Device → List ℕ → Went → Type 0
Puts old new bytes (went.Bytes n) =
    Appends old.bytes new.bytes (take n bytes) × (n ≤ length bytes)
    × (((0 < n) × (new.counts.failures ≡ old.counts.failures)) ⊎ ((n ≡ 0) × (new.counts.failures ≡ up old.counts.failures 1)))
Puts old new bytes went.Nothing = Appends old.bytes new.bytes [] × (new.counts.failures ≡ up old.counts.failures 1)
Puts old new bytes went.Failure = Appends old.bytes new.bytes []

-- the outcome of a write that failed: no byte was written
abbrev pub WentAfter : Went → Type 0
WentAfter (went.Bytes n) = n ≡ 0
WentAfter outcome = Unit {0}

-- at most `most` bytes were written
abbrev pub IsWithin : ℕ → Went → Type 0
IsWithin most (went.Bytes n) = n ≤ most
IsWithin most outcome = Unit {0}

-- the bytes to write before and after a write: those that were written are dropped
abbrev pub GoesFrom : List ℕ → List ℕ → Went → Type 0
GoesFrom old new (went.Bytes n) = (n ≤ length old) × (new ≡ drop n old)
GoesFrom old new outcome = new ≡ old
