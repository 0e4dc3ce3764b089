-- From the last part of a chunked body to the bytes with the chunks before it: a result for the
-- part is a result for these bytes. The bytes that a state represents are an open body.
use Rattle.std.proofs.Common.{◌≡◌, ℕ, ◌-◌, ◌≤◌, List, [], ◌∷◌, ◌++◌, length, take, refl, ap, sym, ◌∙◌, inl, inr, append_assoc, arith, length-append}
use Rattle.std.proofs.lemmas.Grind.{common_steps, flat_map-append}
use Rattle.std.proofs.lemmas.List.{append-nil, flat_map_more}
use Rattle.std.specs.List.{AllByRecursion}
use Rattle.mes_frame.specs.Chunk.{Line, line_bytes, Chunk, IsChunk, chunk_bytes, chunks_bytes, data_of, ending, IsChunked}
use Rattle.mes_frame.specs.ChunkFront.{InData, IsPart, After, IsOpen}
use Rattle.mes_frame.specs.ChunkState.{remaining_at, remaining_of, PhaseRepresents, ChunkRepresents, GoesOn, PhaseSteps, ChunkSteps}
use Rattle.mes_frame.specs.declared.chunk.Phase.{Phase}
use Rattle.mes_frame.specs.declared.chunk.Phase.TheVariants.{Size, Extension, LineEnd, Data, DataEnd, Trailer, TrailerEnd, End, Closed, Failed}
use Rattle.mes_frame.specs.declared.chunk.ChunkOut as out
use Rattle.mes_frame.specs.declared.chunk.ChunkState.{ChunkState}
use Rattle.mes_frame.proofs.Chunks.{all_push, all_append}

-- more bytes after the last part leave the chunks before it as they are
pub following : {P Q : List ℕ → List ℕ → Type 0} (w body p q : List ℕ) (at : After P w body) → Q (at.part ++ p) (at.represents ++ q) → After Q (w ++ p) (body ++ q)
following w body p q at is = record {
  chunks = at.chunks;
  each = at.each;
  part = at.part ++ p;
  represents = at.represents ++ q;
  is = is;
  spelt = ap (λ (y : List ℕ). y ++ p) at.spelt ∙ append_assoc (chunks_bytes at.chunks) at.part p;
  content = ap (λ (y : List ℕ). y ++ q) at.content ∙ append_assoc (data_of at.chunks) at.represents q;
}

pub within : {P Q : List ℕ → List ℕ → Type 0} (w body : List ℕ) (at : After P w body) → Q at.part at.represents → After Q w body
within w body at is = record {
  chunks = at.chunks;
  each = at.each;
  part = at.part;
  represents = at.represents;
  is = is;
  spelt = at.spelt;
  content = at.content;
}

ends_chunk : (old new : Phase) (w body : List ℕ) (b : ℕ) (at : After (PhaseRepresents old) w body) → (c : Chunk) → IsChunk c → at.part ++ b ∷ [] ≡ chunk_bytes c → at.represents ≡ c.bytes → PhaseRepresents new [] [] → After (PhaseRepresents new) (w ++ b ∷ []) body
ends_chunk old new w body b at c chunk spelt content start = record {
  chunks = at.chunks ++ c ∷ [];
  each = all_push IsChunk at.chunks c at.each chunk;
  part = [];
  represents = [];
  is = start;
  spelt = ap (λ (y : List ℕ). y ++ b ∷ []) at.spelt ∙ (append_assoc (chunks_bytes at.chunks) at.part (b ∷ [])
      ∙ (ap (λ (y : List ℕ). chunks_bytes at.chunks ++ y) spelt ∙ (flat_map_more chunk_bytes [] at.chunks c
      ∙ sym (append-nil (chunks_bytes (at.chunks ++ c ∷ []))))));
  content = at.content ∙ (ap (λ (y : List ℕ). data_of at.chunks ++ y) content ∙ (flat_map_more (λ (x : Chunk). x.bytes) [] at.chunks c
      ∙ sym (append-nil (data_of (at.chunks ++ c ∷ [])))));
}

goes_on : (old new : Phase) (w body : List ℕ) (b : ℕ) (at : After (PhaseRepresents old) w body) → GoesOn new (at.part ++ b ∷ []) at.represents → After (PhaseRepresents new) (w ++ b ∷ []) body
goes_on old new w body b at (inl is) = record {
  chunks = at.chunks;
  each = at.each;
  part = at.part ++ b ∷ [];
  represents = at.represents;
  is = is;
  spelt = ap (λ (y : List ℕ). y ++ b ∷ []) at.spelt ∙ append_assoc (chunks_bytes at.chunks) at.part (b ∷ []);
  content = at.content;
}
goes_on old new w body b at (inr (c, chunk, spelt, content, start)) = ends_chunk old new w body b at c chunk spelt content start

prepend : (cs : List Chunk) (x d : List ℕ) → AllByRecursion IsChunk cs → IsChunked x d → IsChunked (chunks_bytes cs ++ x) (data_of cs ++ d)
prepend cs x d each whole =
    let tail = ending whole.last whole.trailers ++ 13 ∷ 10 ∷ [] in record {
      chunks = cs ++ whole.chunks;
      last = whole.last;
      trailers = whole.trailers;
      each = all_append IsChunk cs whole.chunks each whole.each;
      ends = whole.ends;
      spelt = ap (λ (y : List ℕ). chunks_bytes cs ++ y) whole.spelt ∙ (sym (append_assoc (chunks_bytes cs) (chunks_bytes whole.chunks) tail)
          ∙ ap (λ (y : List ℕ). y ++ tail) (sym (flat_map-append chunk_bytes cs whole.chunks)));
      content = ap (λ (y : List ℕ). data_of cs ++ y) whole.content ∙ sym (flat_map-append (λ (x : Chunk). x.bytes) cs whole.chunks);
    }

whole_of : (old : Phase) (w body : List ℕ) (b : ℕ) (at : After (PhaseRepresents old) w body) → IsChunked (at.part ++ b ∷ []) at.represents → IsChunked (w ++ b ∷ []) body
whole_of old w body b at whole =
    let spelt : w ++ b ∷ [] ≡ chunks_bytes at.chunks ++ (at.part ++ b ∷ []) =
    ap (λ (y : List ℕ). y ++ b ∷ []) at.spelt ∙ append_assoc (chunks_bytes at.chunks) at.part (b ∷ []) in
    rw (spelt, at.content) (prepend at.chunks (at.part ++ b ∷ []) at.represents at.each whole)

-- the result for a byte after the last part is also the result after w, all bytes so far
pub lift : (old new : Phase) (w body : List ℕ) (b : ℕ) (answer : out.ChunkOut) (at : After (PhaseRepresents old) w body) → PhaseSteps new at.part at.represents b answer → ChunkSteps (record { phase = new }) w body b answer
unfolding ChunkRepresents
lift old new w body b out.TheVariants.Quiet at steps = goes_on old new w body b at steps
lift old new w body b out.TheVariants.Byte at steps = following w body (b ∷ []) (b ∷ []) at steps
lift old new w body b out.TheVariants.Closed at steps = (whole_of old w body b at steps.0, steps.2)
lift old new w body b (out.TheVariants.Fault fault) at steps = (within w body at steps.0, steps.1)

part_of : (p : Phase) (x d : List ℕ) → PhaseRepresents p x d → IsPart x d
part_of (Size count size) x d represents = inl represents.0
part_of (Extension count size) x d (l, is, count-is, size-is) = inr (inl (l, is))
part_of (LineEnd size) x d (l, is, size-is) = inr (inr (inl (l, is)))
part_of (Data left) x d (l, is) = inr (inr (inr (inl (l, left, is))))
part_of DataEnd x d represents = inr (inr (inr (inr (inl represents))))
part_of (Trailer used begun) x d (l, ts, t, is, used-is, begun-is) = inr (inr (inr (inr (inr (inl (l, ts, t, is))))))
part_of (TrailerEnd used) x d (l, ts, t, is, used-is) = inr (inr (inr (inr (inr (inr (inl (l, ts, t, is)))))))
part_of End x d represents = inr (inr (inr (inr (inr (inr (inr represents))))))
part_of Closed x d represents = absurd represents
part_of (Failed fault) x d represents = absurd represents

-- the bytes that a state represents are an open body
pub open_of : (s : ChunkState) (w body : List ℕ) → ChunkRepresents s w body → IsOpen w body
unfolding ChunkRepresents
open_of s w body represents = within w body represents (part_of s.phase represents.part represents.represents represents.is)

nothing_more : (P : List ℕ → List ℕ → Type 0) (x d p : List ℕ) → length p ≤ 0 → P x d → P (x ++ p) (d ++ p)
nothing_more P x d [] none is = rw (append-nil x, append-nil d) is
nothing_more P x d (b ∷ p) none is = absurd (omega arith)

data_run : (l : Line) (left : ℕ) (x d p : List ℕ) → InData l left x d → length p ≤ left → InData l (left - length p) (x ++ p) (d ++ p)
data_run l left x d p old fits =
    let len = length-append d p in
    record {
      line = old.line;
      spelt = ap (λ (y : List ℕ). y ++ p) old.spelt ∙ append_assoc (line_bytes l) (13 ∷ 10 ∷ d) p;
      size = let size = old.size in omega arith;
      some = old.some;
    }

run_at : (phase : Phase) (x d p : List ℕ) → PhaseRepresents phase x d → length p ≤ remaining_at phase → IsPart (x ++ p) (d ++ p)
run_at (Data left) x d p (l, is) fits = inr (inr (inr (inl (l, left - length p, data_run l left x d p is fits))))
run_at (Size count size) x d p represents fits = nothing_more IsPart x d p fits (part_of (Size count size) x d represents)
run_at (Extension count size) x d p represents fits = nothing_more IsPart x d p fits (part_of (Extension count size) x d represents)
run_at (LineEnd size) x d p represents fits = nothing_more IsPart x d p fits (part_of (LineEnd size) x d represents)
run_at DataEnd x d p represents fits = nothing_more IsPart x d p fits (part_of DataEnd x d represents)
run_at (Trailer used begun) x d p represents fits = nothing_more IsPart x d p fits (part_of (Trailer used begun) x d represents)
run_at (TrailerEnd used) x d p represents fits = nothing_more IsPart x d p fits (part_of (TrailerEnd used) x d represents)
run_at End x d p represents fits = nothing_more IsPart x d p fits (part_of End x d represents)
run_at Closed x d p represents fits = absurd represents
run_at (Failed fault) x d p represents fits = absurd represents

-- every prefix of the skipped data leaves an open body
pub fronts_of : (s : ChunkState) (w body p : List ℕ) (k count : ℕ) → count ≤ remaining_of s → length p ≡ count → k ≤ count → ChunkRepresents s w body → IsOpen (w ++ take k p) (body ++ take k p)
unfolding ChunkRepresents
fronts_of s w body p k count remaining len front represents =
    let short : length (take k p) ≡ k = grind (arith, common_steps) in
    following w body (take k p) (take k p) represents (run_at s.phase represents.part represents.represents (take k p) represents.is (omega arith))

no_room : (phase : Phase) → ((left : ℕ) → phase ≡ Data left → ⊥) → remaining_at phase ≡ 0
no_room (Data left) other = absurd (other left refl)
no_room (Size count size) other = refl
no_room (Extension count size) other = refl
no_room (LineEnd size) other = refl
no_room DataEnd other = refl
no_room (Trailer used begun) other = refl
no_room (TrailerEnd used) other = refl
no_room End other = refl
no_room Closed other = refl
no_room (Failed fault) other = refl

-- in every phase but `Data`, no data byte comes next
pub no_room_of : (s : ChunkState) → ((left : ℕ) → s.phase ≡ Data left → ⊥) → remaining_of s ≡ 0
no_room_of s other = no_room s.phase other

pub empty_run : (s : ChunkState) (w body p : List ℕ) → length p ≤ 0 → ChunkRepresents s w body → ChunkRepresents s (w ++ p) (body ++ p)
empty_run s w body p none represents = nothing_more (ChunkRepresents s) w body p none represents
