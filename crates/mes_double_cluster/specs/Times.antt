-- Times in milliseconds, and numbers that are counted. Sums saturate at 2^64 - 1.
use Rattle.std.specs.Prelude.{ℕ, ◌+◌, ◌-◌, ◌^◌, min, List, Option, Some, None}
use Rattle.std.specs.List.{reduce}

-- the sum, at most 2^64 - 1
abbrev pub saturated_sum : ℕ → ℕ → ℕ
saturated_sum a b = min (a + b) (2 ^ 64 - 1)

-- the earlier of two times; `None` is never
abbrev pub earlier : Option ℕ → Option ℕ → Option ℕ
earlier None other = other
earlier (Some one) None = Some one
earlier (Some one) (Some other) = Some (min one other)

-- the earliest of some times, if there are any
abbrev pub earliest : List ℕ → Option ℕ
earliest times = reduce min times
