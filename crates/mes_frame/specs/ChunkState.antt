-- The bytes that a state of the decoder of chunked bodies represents.
use Rattle.std.specs.Prelude.{◌≡◌, ℕ, ◌+◌, ◌<◌, ◌≤◌, ◌⊎◌, Bool, true, false, List, [], ◌∷◌, ◌++◌, length, take, Option, None, Some}
use Rattle.std.specs.Str.Parse.{digits_value}
use Rattle.mes_frame.specs.Chunk.{Line, size_of, Chunk, IsChunk, chunk_bytes, trailers_bytes, IsChunked}
use Rattle.mes_frame.specs.ChunkFront.{InSize, InExtension, AfterLine, InData, AfterData, InTrailer, AfterTrailer, AfterEnding, After, IsOpen}
use Rattle.mes_frame.specs.ChunkFaults.{PartShows, ChunkShows}
use Rattle.mes_frame.specs.declared.chunk.Phase.{Phase}
use Rattle.mes_frame.specs.declared.chunk.Phase.TheVariants.{Size, Extension, LineEnd, Data, DataEnd, Trailer, TrailerEnd, End, Closed, Failed}
use Rattle.mes_frame.specs.declared.chunk.ChunkOut as out
use Rattle.mes_frame.specs.declared.chunk.ChunkState.{ChunkState}

-- the result that every further byte has in a phase after the end or a fault
abbrev pub end_at : Phase → Option out.ChunkOut
end_at (Size count size) = None
end_at (Extension count size) = None
end_at (LineEnd size) = None
end_at (Data left) = None
end_at DataEnd = None
end_at (Trailer used begun) = None
end_at (TrailerEnd used) = None
end_at End = None
end_at Closed = Some out.TheVariants.Closed
end_at (Failed fault) = Some (out.TheVariants.Fault fault)

abbrev pub end_of : ChunkState → Option out.ChunkOut
end_of s = end_at s.phase

-- in the given phase, the number of data bytes that come next
abbrev pub remaining_at : Phase → ℕ
remaining_at (Size count size) = 0
remaining_at (Extension count size) = 0
remaining_at (LineEnd size) = 0
remaining_at (Data left) = left
remaining_at DataEnd = 0
remaining_at (Trailer used begun) = 0
remaining_at (TrailerEnd used) = 0
remaining_at End = 0
remaining_at Closed = 0
remaining_at (Failed fault) = 0

abbrev pub remaining_of : ChunkState → ℕ
remaining_of s = remaining_at s.phase

-- the flag `begun` of a trailer line is true if and only if the line has a byte
abbrev pub IsBegun : Bool → List ℕ → Type 0
IsBegun false t = t ≡ []
IsBegun true t = 0 < length t

-- the phase represents the part x with the data d
abbrev pub PhaseRepresents : Phase → List ℕ → List ℕ → Type 0
PhaseRepresents (Size count size) x d = InSize x d × (count ≡ length x) × (size ≡ digits_value 16 x)
PhaseRepresents (Extension count size) x d = (l : Line) × InExtension l x d × (count ≡ length x) × (size ≡ size_of l)
PhaseRepresents (LineEnd size) x d = (l : Line) × AfterLine l x d × (size ≡ size_of l)
PhaseRepresents (Data left) x d = (l : Line) × InData l left x d
PhaseRepresents DataEnd x d = (l : Line) × AfterData l x d
PhaseRepresents (Trailer used begun) x d =
    (l : Line) × (ts : List (List ℕ)) × (t : List ℕ) × InTrailer l ts t x d
    × (used ≡ length (trailers_bytes ts) + length t) × IsBegun begun t
PhaseRepresents (TrailerEnd used) x d =
    (l : Line) × (ts : List (List ℕ)) × (t : List ℕ) × AfterTrailer l ts t x d
    × (used ≡ length (trailers_bytes ts) + length t + 1)
PhaseRepresents End x d = (l : Line) × (ts : List (List ℕ)) × AfterEnding l ts x d
PhaseRepresents Closed x d = ⊥
PhaseRepresents (Failed fault) x d = ⊥

-- the state represents w, an open body with the data `body`
unfoldable pub ChunkRepresents : ChunkState → List ℕ → List ℕ → Type 0
ChunkRepresents s w body = After (PhaseRepresents s.phase) w body

abbrev pub state_at : Phase → ChunkState
state_at phase = record { phase = phase }

-- after w, the first `count` bytes of `piece` are framing, and each prefix leaves an open body
abbrev pub PassesFraming : ChunkState → List ℕ → List ℕ → List ℕ → ℕ → Type 0
PassesFraming new w body piece count =
    ChunkRepresents new (w ++ take count piece) body × ((n : ℕ) → n ≤ count → IsOpen (w ++ take n piece) body)

-- the new phase represents the part x with the data d; or x is a whole chunk, and a next one may
-- begin
abbrev pub GoesOn : Phase → List ℕ → List ℕ → Type 0
GoesOn new x d =
    PhaseRepresents new x d
    ⊎ ((c : Chunk) × IsChunk c × (x ≡ chunk_bytes c) × (d ≡ c.bytes) × PhaseRepresents new [] [])

-- the meaning of the result for the byte b after the part x with the data d, and the new phase
abbrev pub PhaseSteps : Phase → List ℕ → List ℕ → ℕ → out.ChunkOut → Type 0
PhaseSteps new x d b out.TheVariants.Quiet = GoesOn new (x ++ b ∷ []) d
PhaseSteps new x d b out.TheVariants.Byte = PhaseRepresents new (x ++ b ∷ []) (d ++ b ∷ [])
PhaseSteps new x d b out.TheVariants.Closed = IsChunked (x ++ b ∷ []) d × (d ≡ []) × (end_at new ≡ Some out.TheVariants.Closed)
PhaseSteps new x d b (out.TheVariants.Fault fault) = PartShows x d b fault × (end_at new ≡ Some (out.TheVariants.Fault fault))

-- the meaning of the result for the byte b after w with the data `body`, and the new state
abbrev pub ChunkSteps : ChunkState → List ℕ → List ℕ → ℕ → out.ChunkOut → Type 0
ChunkSteps new w body b out.TheVariants.Quiet = ChunkRepresents new (w ++ b ∷ []) body
ChunkSteps new w body b out.TheVariants.Byte = ChunkRepresents new (w ++ b ∷ []) (body ++ b ∷ [])
ChunkSteps new w body b out.TheVariants.Closed = IsChunked (w ++ b ∷ []) body × (end_of new ≡ Some out.TheVariants.Closed)
ChunkSteps new w body b (out.TheVariants.Fault fault) = ChunkShows w body b fault × (end_of new ≡ Some (out.TheVariants.Fault fault))

-- a byte is data if and only if `remaining` was not 0 before it
abbrev pub OutWith : ℕ → out.ChunkOut → Type 0
OutWith remaining out.TheVariants.Quiet = remaining ≡ 0
OutWith remaining out.TheVariants.Byte = 0 < remaining
OutWith remaining out.TheVariants.Closed = remaining ≡ 0
OutWith remaining (out.TheVariants.Fault fault) = remaining ≡ 0
