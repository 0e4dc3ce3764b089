-- The results of decoding bytes as a chunked body.
use Rattle.std.specs.Prelude.{◌≡◌, ℕ, List, ◌∷◌, ◌++◌}
use Rattle.mes_frame.specs.Chunk.{IsChunked}
use Rattle.mes_frame.specs.ChunkFront.{IsOpen}
use Rattle.mes_frame.specs.ChunkFaults.{ChunkShows}
use Rattle.mes_frame.specs.declared.fault.FrameFault.{FrameFault}

pub data ChunkReading : Type 0 where
  -- the bytes are an open body with the data `body`
  Begins : (body : List ℕ) → ChunkReading
  -- the bytes begin with the chunked body `front`, whose data is `body`
  Whole : (front body : List ℕ) → ChunkReading
  -- the bytes begin with the open body `front`, and `fault` is detected at the byte after it
  Broken : (front : List ℕ) (byte : ℕ) (body : List ℕ) (fault : FrameFault) → ChunkReading

-- the bytes w have the decoded result
abbrev pub ReadsChunks : List ℕ → ChunkReading → Type 0
ReadsChunks w (Begins body) = IsOpen w body
ReadsChunks w (Whole front body) = (rest : List ℕ) × (w ≡ front ++ rest) × IsChunked front body
ReadsChunks w (Broken front byte body fault) = (rest : List ℕ) × (w ≡ front ++ byte ∷ rest) × ChunkShows front body byte fault
