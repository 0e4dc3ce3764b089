-- The bytes that a write has written when it stops.
use Rattle.std.specs.Prelude.{◌≡◌, ℕ, ◌-◌, ◌^◌, ◌<◌, min, List, ◌++◌, Option, length, take}
use Rattle.std.specs.Io.KnownBytes.{Appends}
use Rattle.mes_frame.specs.Counts.{up}
use Rattle.mes_frame.specs.Write.{NoneFails, StopsWrite, CallsFor}
use Rattle.mes_frame.specs.declared.counts.Counts.{Counts}
use Rattle.mes_frame.specs.declared.write.WriteFault.{WriteFault}

-- a number of bytes, capped at 2^64 - 1
abbrev pub reported : ℕ → ℕ
reported n = min n (2 ^ 64 - 1)

-- the first n bytes of w were written, and no others; n is below the length of w; `sent` is n,
-- capped
pub record WroteFront (old new : Option (List ℕ)) (w : List ℕ) (sent : ℕ) : Type 0 where
  pub n : ℕ
  pub short : n < length w
  pub out : Appends old new (take n w)
  pub sent_is : sent ≡ reported n

-- like `WroteFront`, but `sent` also counts the bytes `before` the part w
pub record WrotePart (old new : Option (List ℕ)) (w : List ℕ) (before sent : ℕ) : Type 0 where
  pub n : ℕ
  pub short : n < length w
  pub out : Appends old new (take n w)
  pub sent_is : sent ≡ up before n

-- all of w was written; the count of bytes was `sent` before and is `all` now; no call failed or
-- wrote nothing
pub record WentOut (before after : Option (List ℕ)) (old new : Counts) (w : List ℕ) (sent all : ℕ) : Type 0 where
  pub out : Appends before after w
  pub good : NoneFails old new
  pub count : all ≡ up sent (length w)
  pub calls : CallsFor (length w) old new

-- of the bytes w, a prefix was written, and the rest is buffered
pub record Passes (before after : Option (List ℕ)) (old new : Counts) (w held : List ℕ) (sent all : ℕ) : Type 0 where
  pub front : List ℕ
  pub spelt : w ≡ front ++ held
  pub out : WentOut before after old new front sent all

-- a proper prefix of w was written, and one call failed or wrote nothing, as `fault` says
pub record Stops (before after : Option (List ℕ)) (old new : Counts) (w : List ℕ) (sent : ℕ) (fault : WriteFault) : Type 0 where
  pub part : WrotePart before after w sent fault.sent
  pub why : StopsWrite fault.why old new
  pub calls : CallsFor (length w) old new
