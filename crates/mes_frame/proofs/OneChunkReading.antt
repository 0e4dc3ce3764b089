-- Every list of bytes has at most one decoded result as a chunked body: that of `run`. The bytes
-- that a state represents determine the state.
use Rattle.std.proofs.Common.{◌≡◌, ℕ, ◌-◌, List, [], ◌∷◌, ◌++◌, length, take, get_or, refl, ap, ap₂, sym, ◌∙◌, subst, append_assoc, arith}
use Rattle.std.proofs.lemmas.Grind.{common_steps}
use Rattle.mes_frame.specs.Chunk.{trailers_bytes, ending, chunks_bytes, data_of, IsChunked}
use Rattle.mes_frame.specs.ChunkFront.{After, IsOpen}
use Rattle.mes_frame.specs.ChunkFaults.{ChunkShows}
use Rattle.mes_frame.specs.ChunkReading.{ChunkReading, Begins, Whole, Broken, ReadsChunks}
use Rattle.mes_frame.specs.ChunkState.{ChunkRepresents}
use Rattle.mes_frame.specs.declared.fault.FrameFault.{FrameFault}
use Rattle.mes_frame.specs.declared.chunk.Phase.{Phase}
use Rattle.mes_frame.specs.declared.chunk.Phase.TheVariants.{End}
use Rattle.mes_frame.specs.declared.chunk.ChunkState.{ChunkState}
use Rattle.mes_frame.specs.declared.chunk.ChunkOut.TheVariants as out
use Rattle.mes_frame.proofs.ChunkRun.{start, Outcome, Represents, Ended, run, Goes, stays, by_quiet, and_then, goes_as, quiet_behind, run_stands, run_ends, run_breaks}
use Rattle.mes_frame.proofs.ChunkBytes.{at_empty, at_end}
use Rattle.mes_frame.proofs.ChunkGoes.{goes_chunks, goes_ending}
use Rattle.mes_frame.proofs.ChunkPhases.{place_reaches, at_place}
use Rattle.mes_frame.proofs.ChunkBreaks.{breaks}

-- whole chunks and then a part lead to the same phase as the part alone
goes_after : (P : List ℕ → List ℕ → Type 0) (p : Phase) (w body : List ℕ) (at : After P w body) → Goes start at.part p at.represents → Goes start w p body
goes_after P p w body at goes =
    goes_as _ _ w (chunks_bytes at.chunks ++ at.part) body (data_of at.chunks ++ at.represents) at.spelt at.content
    (and_then _ _ _ (chunks_bytes at.chunks) at.part (data_of at.chunks) at.represents (goes_chunks at.chunks at.each) goes)

pub state_run : (s : ChunkState) (w body : List ℕ) → ChunkRepresents s w body → run w start [] ≡ Represents s.phase body
unfolding ChunkRepresents
state_run s w body at = run_stands _ w body (goes_after _ _ w body at (place_reaches s.phase at.part at.represents at.is))

pub open_run : (w body : List ℕ) → IsOpen w body → (p : Phase) × (run w start [] ≡ Represents p body)
open_run w body at =
    let placed = at_place at.part at.represents at.is in
    (placed.phase, run_stands _ w body (goes_after _ _ w body at (place_reaches placed.phase at.part at.represents placed.represents)))

pub broken_run : (w over body : List ℕ) (b : ℕ) (f : FrameFault) → ChunkShows w body b f → run (w ++ b ∷ over) start [] ≡ Ended (out.Fault f) body over
broken_run w over body b f at =
    let broken = breaks at.part at.represents b f at.is in
    run_breaks _ w body over b f (goes_after _ _ w body at (place_reaches broken.phase at.part at.represents broken.represents)) broken.step

pub whole_run : (w over body : List ℕ) → IsChunked w body → run (w ++ over) start [] ≡ Ended out.Closed body over
whole_run w over body whole =
    let used : ℕ = length (trailers_bytes whole.trailers) in
    let to_end : Goes start (ending whole.last whole.trailers ++ 13 ∷ []) End [] =
    and_then _ _ _ (ending whole.last whole.trailers) (13 ∷ []) [] [] (goes_ending whole.last whole.trailers used whole.ends refl)
    (by_quiet _ _ _ 13 [] [] (at_empty used) (stays _ _ refl)) in
    let front : List ℕ = chunks_bytes whole.chunks ++ (ending whole.last whole.trailers ++ 13 ∷ []) in
    let goes : Goes start front End body =
    goes_as _ _ front front body (data_of whole.chunks) refl whole.content
    (quiet_behind _ _ _ (chunks_bytes whole.chunks) (ending whole.last whole.trailers ++ 13 ∷ []) (data_of whole.chunks) (goes_chunks whole.chunks whole.each) to_end) in
    let seam : w ++ over ≡ front ++ 10 ∷ over = ap (λ (y : List ℕ). y ++ over) whole.spelt ∙ simp append_assoc in
    ap (λ (y : List ℕ). run y start []) seam ∙ run_ends _ front body over 10 goes at_end

-- the decoded result of the bytes w, from the outcome of `run` over w
reading_of : List ℕ → Outcome → ChunkReading
reading_of w (Represents phase body) = Begins body
reading_of w (Ended out.Quiet body over) = Begins body
reading_of w (Ended out.Byte body over) = Begins body
reading_of w (Ended out.Closed body over) = Whole (take (length w - length over) w) body
reading_of w (Ended (out.Fault f) body over) =
    let at : ℕ = length w - length over - 1 in
    Broken (take at w) (get_or w at 0) body f

whole_front : (front over : List ℕ) → take (length (front ++ over) - length over) (front ++ over) ≡ front
whole_front front over = grind (arith, common_steps)

broken_front : (front over : List ℕ) (b : ℕ) → take (length (front ++ b ∷ over) - length over - 1) (front ++ b ∷ over) ≡ front
broken_front front over b = grind (arith, common_steps)

broken_byte : (front over : List ℕ) (b : ℕ) → get_or (front ++ b ∷ over) (length (front ++ b ∷ over) - length over - 1) 0 ≡ b
broken_byte front over b = grind (arith, common_steps)

read_whole : (front over body : List ℕ) → IsChunked front body → Whole front body ≡ reading_of (front ++ over) (run (front ++ over) start [])
unfolding reading_of
read_whole front over body whole =
    ap (λ (y : List ℕ). Whole y body) (sym (whole_front front over)) ∙ ap (reading_of (front ++ over)) (sym (whole_run front over body whole))

read_broken : (front over body : List ℕ) (b : ℕ) (f : FrameFault) → ChunkShows front body b f → Broken front b body f ≡ reading_of (front ++ b ∷ over) (run (front ++ b ∷ over) start [])
unfolding reading_of
read_broken front over body b f shows =
    ap₂ (λ (y : List ℕ) (c : ℕ). Broken y c body f) (sym (broken_front front over b)) (sym (broken_byte front over b))
    ∙ ap (reading_of (front ++ b ∷ over)) (sym (broken_run front over body b f shows))

reads_so : (w : List ℕ) (reading : ChunkReading) → ReadsChunks w reading → reading ≡ reading_of w (run w start [])
unfolding reading_of
reads_so w (Begins body) reads = let runs = open_run w body reads in ap (reading_of w) (sym runs.1)
reads_so w (Whole front body) (rest, spelt, whole) =
    subst (λ (v : List ℕ). Whole front body ≡ reading_of v (run v start [])) (sym spelt) (read_whole front rest body whole)
reads_so w (Broken front byte body fault) (rest, spelt, shows) =
    subst (λ (v : List ℕ). Broken front byte body fault ≡ reading_of v (run v start [])) (sym spelt) (read_broken front rest body byte fault shows)

pub one_reading : (w : List ℕ) (reading other : ChunkReading) → ReadsChunks w reading → ReadsChunks w other → reading ≡ other
one_reading w reading other reads too = reads_so w reading reads ∙ sym (reads_so w other too)

-- two states that represent the same bytes are equal
pub one_state : (s t : ChunkState) (w body other : List ℕ) → ChunkRepresents s w body → ChunkRepresents t w other → (s ≡ t) × (body ≡ other)
one_state s t w body other first second =
    let same : Represents s.phase body ≡ Represents t.phase other = sym (state_run s w body first) ∙ state_run t w other second in
    let places : s.phase ≡ t.phase = cc in
    let state : Phase → ChunkState = λ p. record { phase = p } in
    (ap state places, cc)
