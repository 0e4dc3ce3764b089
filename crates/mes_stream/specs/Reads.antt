-- The reads of a device: their number, their bytes, and how they ended.
use Rattle.std.specs.Prelude.{◌≡◌, ℕ, ◌+◌, ◌*◌, ◌<◌, ◌≤◌, Option, List, ◌++◌, length}
use Rattle.std.specs.Io.KnownBytes.{IsAtEnd}
use Rattle.mes_frame.specs.Counts.{up}
use Rattle.mes_frame.specs.declared.counts.Counts.{Counts}
use Rattle.mes_stream.specs.declared.limits.TheConstants.{MAX_READ}
use Rattle.mes_stream.specs.declared.read_loop.ReadsEnd.{ReadsEnd}
use Rattle.mes_stream.specs.declared.read_loop.ReadsEnd.TheVariants.{Stopped, AtEnd, Failed, Spent}

-- `made` reads, at most `reads`, returned w, at most 512 bytes each; `failed` reads failed, and
-- `ended` reads reported the end
pub record ReadsMade (reads : ℕ) (old new : Counts) (w : List ℕ) (made failed ended : ℕ) : Type 0 where
  pub most : made ≤ reads
  pub bytes : length w ≤ MAX_READ * made
  pub calls : new.calls ≡ up old.calls made
  pub failures : new.failures ≡ up old.failures failed
  pub idle : new.idle ≡ up old.idle ended
  -- no read both failed and reported the end, and each of the others returned a byte
  pub ends : failed + ended ≤ made
  pub gave : made ≤ length w + failed + ended

-- `ReadsMade` for some number of reads
abbrev pub SomeReadsMade : ℕ → Counts → Counts → List ℕ → ℕ → ℕ → Type 0
SomeReadsMade reads old new w failed ended = (made : ℕ) × ReadsMade reads old new w made failed ended

-- w is `front` and then the last piece read, of 1 to 512 bytes
pub record LastRead (w front piece : List ℕ) : Type 0 where
  pub is : w ≡ front ++ piece
  pub some : 0 < length piece
  pub most : length piece ≤ MAX_READ

-- How the reads ended: the consumer stopped (`Stops`), the device reported its end, a read failed,
-- or all allowed reads were made. `Goes` holds of the bytes consumed before.
abbrev pub EndsReads : {Z : Type 0} → (List ℕ → Type 0) → (List ℕ → List ℕ → Z → Type 0) → ℕ → Counts → Counts → Option (List ℕ) → List ℕ → ReadsEnd Z → Type 0
EndsReads Goes Stops reads old new last w (Stopped why) =
    (front : List ℕ) × (piece : List ℕ) × LastRead w front piece × Stops front piece why × SomeReadsMade reads old new w 0 0
EndsReads Goes Stops reads old new last w AtEnd = Goes w × IsAtEnd last × SomeReadsMade reads old new w 0 1
EndsReads Goes Stops reads old new last w Failed = Goes w × SomeReadsMade reads old new w 1 0
EndsReads Goes Stops reads old new last w Spent = Goes w × ReadsMade reads old new w reads 0 0
