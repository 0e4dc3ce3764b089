-- The observable state of a device.
use Rattle.std.specs.Prelude.{ℕ, Option, List}
use Rattle.mes_frame.specs.declared.counts.Counts.{Counts}

-- a device's bytes (left to read, or written), if the device determines them, and its counts
pub record Device : Type 0 where
  pub bytes : Option (List ℕ)
  pub counts : Counts
