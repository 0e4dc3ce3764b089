-- The counts of the calls of a device.
use Rattle.std.specs.Prelude.{◌≡◌, ℕ, ◌+◌, ◌-◌, ◌^◌, Bool, min, max, nat_lt, ◌==◌, ◌&&◌, if◌then◌else◌, Result, Ok, Err}
use Rattle.mes_frame.specs.declared.counts.Counts.{Counts}

-- the count n increased by k, saturating at 2^64 - 1
abbrev pub up : ℕ → ℕ → ℕ
up n k = max n (min (n + k) (2 ^ 64 - 1))

-- the count n increased by 1 if b is true
abbrev pub up_if : Bool → ℕ → ℕ
up_if b n = if b then up n 1 else n

-- the counts before and after a call with a buffer of `len` bytes, by the call's result
abbrev pub CountsCall : {E : Type 0} → Counts → Counts → ℕ → Result ℕ E → Type 0
CountsCall old new len (Ok moved) =
    (new.calls ≡ up_if (nat_lt 0 len) old.calls)
    × (new.failures ≡ old.failures)
    × (new.idle ≡ up_if (nat_lt 0 len && (moved == 0)) old.idle)
CountsCall old new len (Err e) =
    (new.calls ≡ up_if (nat_lt 0 len) old.calls)
    × (new.failures ≡ up old.failures 1)
    × (new.idle ≡ old.idle)

-- the counts before the first call
abbrev pub no_calls : Counts
no_calls = record { calls = 0; failures = 0; idle = 0 }
