-- The data of a prefix of a chunked body are a prefix of the data of any longer input.
use Rattle.std.proofs.Common.{◌≡◌, ℕ, List, [], ◌∷◌, ◌++◌, refl, ap, sym, ◌∙◌, subst, append_assoc, append-nil}
use Rattle.mes_frame.specs.ChunkFront.{IsOpen}
use Rattle.mes_frame.specs.ChunkReading.{ChunkReading, Begins, Whole, Broken, ReadsChunks}
use Rattle.mes_frame.specs.ChunkState.{PhaseRepresents, ChunkRepresents, ChunkSteps}
use Rattle.mes_frame.specs.declared.chunk.ChunkState.{ChunkState}
use Rattle.mes_frame.specs.declared.chunk.ChunkOut.{ChunkOut}
use Rattle.mes_frame.specs.declared.chunk.ChunkOut.TheVariants as out
use Rattle.mes_frame.proofs.ChunkParts.{lift, open_of, within}
use Rattle.mes_frame.proofs.ChunkAnswers.{answer_at}
use Rattle.mes_frame.proofs.ChunkPhases.{at_place}
use Rattle.mes_frame.proofs.OneChunkReading.{one_reading}

-- the data of a chunked body with the given reading
abbrev pub content_of : ChunkReading → List ℕ
content_of (Begins body) = body
content_of (Whole front body) = body
content_of (Broken front byte body fault) = body

record Next (w body : List ℕ) (b : ℕ) : Type 0 where
  state : ChunkState
  answer : ChunkOut
  steps : ChunkSteps state w body b answer

next_of : (s : ChunkState) (w body : List ℕ) (b : ℕ) → ChunkRepresents s w body → Next w body b
unfolding ChunkRepresents
next_of s w body b at =
    let found = answer_at s.phase b at.part at.represents at.is in
    record { state = record { phase = found.phase }; answer = found.answer; steps = lift s.phase found.phase w body b found.answer at found.steps }

-- a reading of w whose data begin with the bytes `body`
record Grown (w body : List ℕ) : Type 0 where
  reading : ChunkReading
  reads : ReadsChunks w reading
  more : List ℕ
  grows : content_of reading ≡ body ++ more

seam : (w rest body : List ℕ) (b : ℕ) → Grown ((w ++ b ∷ []) ++ rest) body → Grown (w ++ b ∷ rest) body
seam w rest body b g = subst (λ (v : List ℕ). Grown v body) (append_assoc w (b ∷ []) rest) g

grown_next : (w body rest : List ℕ) (b : ℕ) (s : ChunkState) (answer : ChunkOut) → ChunkSteps s w body b answer → ((more : List ℕ) → ChunkRepresents s (w ++ b ∷ []) more → Grown ((w ++ b ∷ []) ++ rest) more) → Grown (w ++ b ∷ rest) body
grown_next w body rest b s out.Quiet steps go = seam w rest body b (go body steps)
grown_next w body rest b s out.Byte steps go =
    let g = go (body ++ b ∷ []) steps in
    seam w rest body b (record { reading = g.reading; reads = g.reads; more = b ∷ g.more; grows = g.grows ∙ append_assoc body (b ∷ []) g.more })
grown_next w body rest b s out.Closed steps go =
    seam w rest body b (record { reading = Whole (w ++ b ∷ []) body; reads = (rest, refl, steps.0); more = []; grows = sym (append-nil body) })
grown_next w body rest b s (out.Fault fault) steps go = record { reading = Broken w b body fault; reads = (rest, refl, steps.0); more = []; grows = sym (append-nil body) }

grown : (rest w body : List ℕ) (s : ChunkState) → ChunkRepresents s w body → Grown (w ++ rest) body
grown [] w body s at = rw append-nil (record { reading = Begins body; reads = open_of s w body at; more = []; grows = sym (append-nil body) })
grown (b ∷ rest) w body s at =
    let next = next_of s w body b at in
    grown_next w body rest b next.state next.answer next.steps (λ more represents. grown rest (w ++ b ∷ []) more next.state represents)

state_of : (w body : List ℕ) → IsOpen w body → (s : ChunkState) × ChunkRepresents s w body
unfolding ChunkRepresents
state_of w body at =
    let placed = at_place at.part at.represents at.is in
    (record { phase = placed.phase }, within {Q = PhaseRepresents placed.phase} w body at placed.represents)

-- the data of w ++ rest begin with the data `body` of its prefix w
pub grows : (w body rest : List ℕ) (reading : ChunkReading) → IsOpen w body → ReadsChunks (w ++ rest) reading → (more : List ℕ) × (content_of reading ≡ body ++ more)
grows w body rest reading at reads =
    let s = state_of w body at in
    let g = grown rest w body s.0 s.1 in
    (g.more, ap content_of (one_reading (w ++ rest) reading g.reading reads g.reads) ∙ g.grows)
