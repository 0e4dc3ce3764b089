-- A stream has no more messages than bytes.
use Rattle.std.proofs.Common.{◌≡◌, ℕ, ◌+◌, ◌≤◌, List, [], Ok, ◌∷◌, ◌++◌, length, ◌∙◌, ap, arith, inl, inr, length-append}
use Rattle.mes_frame.specs.Chunk.{Chunk, IsChunked, chunk_bytes, chunks_bytes, data_of, ending, line_bytes}
use Rattle.mes_frame.specs.ChunkFront.{IsOpen, IsPart}
use Rattle.mes_msg.specs.Texts.{IsTextOf}
use Rattle.mesosev_stream.specs.Messages.{Messages}
use Rattle.std.specs.List.{flat_map}
use Rattle.mes_stream.specs.Framings.{GoesIn, EndsIn, EndsInput}
use Rattle.mes_stream.specs.JsonLines.{AreLines, HaveValues, ended}
use Rattle.mes_stream.specs.Refusals.{IsMessageRefusal}
use Rattle.mes_stream.specs.Stream.{Records}
use Rattle.mes_stream.specs.declared.stream_reader.Framing.{Framing}
use Rattle.mes_stream.specs.declared.stream_reader.Framing.TheVariants.{Plain, Chunked, Lines}

-- the data of chunks have at most as many bytes as the chunks
data_few : (chunks : List Chunk) → length (data_of chunks) ≤ length (chunks_bytes chunks)
data_few [] = omega arith
data_few (c ∷ cs) =
    let fewer = data_few cs in
    let inside = length-append c.bytes (data_of cs) in
    let bytes = length-append (chunk_bytes c) (chunks_bytes cs) in
    let chunk = length-append (line_bytes c.line) (13 ∷ 10 ∷ (c.bytes ++ 13 ∷ 10 ∷ [])) in
    let following = length-append c.bytes (13 ∷ 10 ∷ []) in
    omega (arith, fewer, inside, bytes, chunk, following)

none_few : (x d : List ℕ) → d ≡ [] → length d ≤ length x
none_few x d is = let none = ap length is in omega (arith, none)

part_few : (x d : List ℕ) → IsPart x d → length d ≤ length x
part_few x d (inl h) = none_few x d h.empty
part_few x d (inr (inl (l, h))) = none_few x d h.empty
part_few x d (inr (inr (inl (l, h)))) = none_few x d h.empty
part_few x d (inr (inr (inr (inl (l, left, h))))) =
    let whole = ap length h.spelt ∙ length-append (line_bytes l) (13 ∷ 10 ∷ d) in omega (arith, whole)
part_few x d (inr (inr (inr (inr (inl (l, h)))))) =
    let whole = ap length h.spelt ∙ length-append (line_bytes l) (13 ∷ 10 ∷ (d ++ 13 ∷ [])) in omega (arith, whole, length-append d (13 ∷ []))
part_few x d (inr (inr (inr (inr (inr (inl (l, ts, t, h))))))) = none_few x d h.empty
part_few x d (inr (inr (inr (inr (inr (inr (inl (l, ts, t, h)))))))) = none_few x d h.empty
part_few x d (inr (inr (inr (inr (inr (inr (inr (l, ts, h)))))))) = none_few x d h.empty

open_few : (w body : List ℕ) → IsOpen w body → length body ≤ length w
open_few w body h =
    let inside = data_few h.chunks in
    let part = part_few h.part h.represents h.is in
    let whole = ap length h.spelt ∙ length-append (chunks_bytes h.chunks) h.part in
    let content = ap length h.content ∙ length-append (data_of h.chunks) h.represents in
    omega (arith, inside, part, whole, content)

body_few : (w body : List ℕ) → IsChunked w body → length body ≤ length w
body_few w body h =
    let inside = data_few h.chunks in
    let whole = ap length h.spelt ∙ length-append (chunks_bytes h.chunks) (ending h.last h.trailers ++ 13 ∷ 10 ∷ []) in
    let content = ap length h.content in
    omega (arith, inside, whole, content)

module _ {M : Type 0} (of : Messages M) where
  records_few : (limit : ℕ) (b : List ℕ) (messages : List M) → Records (IsTextOf of.kind) limit b messages → length messages ≤ length b
  records_few limit b [] none = omega arith
  records_few limit b (e ∷ es) (front, rest, r, is, spells, spelt, following) =
      let fewer = records_few limit rest es following in
      let whole = ap length spelt ∙ length-append front rest in
      let some = ap length is.spelt ∙ length-append is.size (10 ∷ r) in
      omega (arith, fewer, whole, some)

  -- a line has at most one value
  have_few : (limit : ℕ) (lines : List (List ℕ)) (messages : List M) → HaveValues (IsTextOf of.kind) limit lines messages → length messages ≤ length (flat_map ended lines)
  have_few limit [] messages none = let empty = ap length none in omega (arith, empty)
  have_few limit (line ∷ lines) messages (inl (blank, more)) =
      let fewer = have_few limit lines messages more in omega (arith, fewer, length-append (ended line) (flat_map ended lines))
  have_few limit (line ∷ lines) messages (inr (r, value, more, is, spells, are, have)) =
      let fewer = have_few limit lines more have in
      let one = ap length are in
      omega (arith, fewer, one, length-append (ended line) (flat_map ended lines), length-append line (10 ∷ []))

  lines_few : (limit : ℕ) (b : List ℕ) (messages : List M) → AreLines (IsTextOf of.kind) limit b messages → length messages ≤ length b
  lines_few limit b messages h =
      let fewer = have_few limit h.lines messages h.have in
      let whole = ap length h.spelt in
      omega (arith, fewer, whole)

  pub goes_few : (framing : Framing) (limit : ℕ) (w : List ℕ) (messages : List M) → GoesIn framing (IsTextOf of.kind) limit w messages → length messages ≤ length w
  goes_few Plain limit w messages live =
      let fewer = records_few limit live.whole messages live.records in
      let whole = ap length live.spelt ∙ length-append live.whole live.x in
      omega (arith, fewer, whole)
  goes_few Chunked limit w messages (body, begun, live) =
      let fewer = records_few limit live.whole messages live.records in
      let whole = ap length live.spelt ∙ length-append live.whole live.x in
      let small = open_few w body begun in
      omega (arith, fewer, whole, small)
  goes_few Lines limit w messages live =
      let fewer = lines_few limit live.whole messages live.lines in
      let whole = ap length live.spelt ∙ length-append live.whole live.x in
      omega (arith, fewer, whole)

  pub ends_few : (framing : Framing) (limit : ℕ) (w : List ℕ) (messages : List M) → EndsIn framing (IsTextOf of.kind) limit w messages → length messages ≤ length w
  ends_few Plain limit w messages none = absurd none
  ends_few Chunked limit w messages (body, whole, records) =
      let fewer = records_few limit body messages records in
      let small = body_few w body whole in
      omega (arith, fewer, small)
  ends_few Lines limit w messages none = absurd none

  -- the end of the input completes at most one message more
  pub input_few : (framing : Framing) (limit : ℕ) (w : List ℕ) (messages : List M) → EndsInput {T = Unit {0}} framing (IsTextOf of.kind) (IsMessageRefusal of.kind) 0 limit w messages (Ok tt) → length messages ≤ length w + 1
  input_few Plain limit w messages records = let fewer = records_few limit w messages records in omega (arith, fewer)
  input_few Chunked limit w messages none = absurd none
  input_few Lines limit w messages lines = let fewer = lines_few limit (w ++ 10 ∷ []) messages lines in omega (arith, fewer, length-append w (10 ∷ []))
