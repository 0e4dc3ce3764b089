-- Every byte after an open chunked body has a result, so every list of bytes has a decoded result.
-- A state that represents bytes has returned no end and no fault.
use Rattle.std.proofs.Common.{◌≡◌, ℕ, None, List, [], ◌∷◌, ◌++◌, refl, subst, append_assoc, arith}
use Rattle.std.proofs.lemmas.List.{append-nil}
use Rattle.mes_frame.specs.ChunkReading.{ChunkReading, Begins, Whole, Broken, ReadsChunks}
use Rattle.mes_frame.specs.ChunkState.{PhaseRepresents, ChunkRepresents, ChunkSteps, end_at, end_of}
use Rattle.mes_frame.specs.declared.chunk.Phase.{Phase}
use Rattle.mes_frame.specs.declared.chunk.Phase.TheVariants.{Size, Extension, LineEnd, Data, DataEnd, Trailer, TrailerEnd, End, Closed, Failed}
use Rattle.mes_frame.specs.declared.chunk.ChunkState.{ChunkState}
use Rattle.mes_frame.specs.declared.chunk.ChunkOut.{ChunkOut}
use Rattle.mes_frame.specs.declared.chunk.ChunkOut.TheVariants as out
use Rattle.mes_frame.proofs.ChunkParts.{lift, open_of}
use Rattle.mes_frame.proofs.ChunkAnswers.{answer_at}

record Next (w body : List ℕ) (b : ℕ) : Type 0 where
  state : ChunkState
  answer : ChunkOut
  steps : ChunkSteps state w body b answer

next_of : (s : ChunkState) (w body : List ℕ) (b : ℕ) → ChunkRepresents s w body → Next w body b
unfolding ChunkRepresents
next_of s w body b at =
    let found = answer_at s.phase b at.part at.represents at.is in
    record { state = record { phase = found.phase }; answer = found.answer; steps = lift s.phase found.phase w body b found.answer at found.steps }

Read : List ℕ → Type 0
Read w = (reading : ChunkReading) × ReadsChunks w reading

seam : (w rest : List ℕ) (b : ℕ) → Read ((w ++ b ∷ []) ++ rest) → Read (w ++ b ∷ rest)
seam w rest b read = subst Read (append_assoc w (b ∷ []) rest) read

-- if b and the bytes after b have results, the bytes from b on have a decoded result
read_next : (w body rest : List ℕ) (b : ℕ) (s : ChunkState) (answer : ChunkOut) → ChunkSteps s w body b answer → ((more : List ℕ) → ChunkRepresents s (w ++ b ∷ []) more → Read ((w ++ b ∷ []) ++ rest)) → Read (w ++ b ∷ rest)
unfolding Read
read_next w body rest b s out.Quiet steps read = seam w rest b (read body steps)
read_next w body rest b s out.Byte steps read = seam w rest b (read (body ++ b ∷ []) steps)
read_next w body rest b s out.Closed steps read = seam w rest b (Whole (w ++ b ∷ []) body, (rest, refl, steps.0))
read_next w body rest b s (out.Fault fault) steps read = (Broken w b body fault, (rest, refl, steps.0))

read_on : (rest w body : List ℕ) (s : ChunkState) → ChunkRepresents s w body → Read (w ++ rest)
unfolding Read
read_on [] w body s at = rw append-nil (Begins body, open_of s w body at)
read_on (b ∷ rest) w body s at =
    let next = next_of s w body b at in
    read_next w body rest b next.state next.answer next.steps (λ more represents. read_on rest (w ++ b ∷ []) more next.state represents)

none_stands : ChunkRepresents (record { phase = Size 0 0 }) [] []
unfolding ChunkRepresents
none_stands = record {
  chunks = [];
  each = tt;
  part = [];
  represents = [];
  is = (record { hex = tt; fits = omega arith; short = omega arith; empty = refl }, refl, refl);
  spelt = refl;
  content = refl;
}

pub some_reading : (w : List ℕ) → (reading : ChunkReading) × ReadsChunks w reading
unfolding Read
some_reading w = read_on w [] [] (record { phase = Size 0 0 }) none_stands

no_end_at : (p : Phase) (x d : List ℕ) → PhaseRepresents p x d → end_at p ≡ None
no_end_at (Size count size) x d represents = refl
no_end_at (Extension count size) x d represents = refl
no_end_at (LineEnd size) x d represents = refl
no_end_at (Data left) x d represents = refl
no_end_at DataEnd x d represents = refl
no_end_at (Trailer used begun) x d represents = refl
no_end_at (TrailerEnd used) x d represents = refl
no_end_at End x d represents = refl
no_end_at Closed x d represents = absurd represents
no_end_at (Failed fault) x d represents = absurd represents

-- a state that represents bytes has returned no end and no fault
pub no_end_of : (s : ChunkState) (w body : List ℕ) → ChunkRepresents s w body → end_of s ≡ None
unfolding ChunkRepresents
no_end_of s w body at = no_end_at s.phase at.part at.represents at.is
