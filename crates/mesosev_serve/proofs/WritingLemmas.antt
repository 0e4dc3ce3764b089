-- Lemmas about writing a stream: its head, then its records in chunks.
use Rattle.std.proofs.Common.{◌≡◌, ℕ, ◌^◌, ◌<◌, ◌≤◌, List, ◌++◌, Result, Ok, Err, length, take, refl, subst}
use Rattle.std.specs.Io.KnownBytes.{Appends}
use Rattle.mes_msg.specs.Event.{Event}
use Rattle.mes_frame.proofs.Framings.{framing_is_unique, some_framing}
use Rattle.mes_frame.proofs.Parts.{part_out, part_stops, both_out, out_stops, stops_long, front_of}
use Rattle.mes_frame.specs.Counts.{up}
use Rattle.mes_frame.specs.Devices.{Device}
use Rattle.mes_frame.specs.Frames.{IsFrames}
use Rattle.mes_frame.specs.Write.{NoneFails, StopsWrite, CallsFor}
use Rattle.mes_frame.specs.Written.{WroteFront, WentOut, Stops}
use Rattle.mes_frame.specs.declared.limits.TheConstants.{DEFAULT_RECORD_LIMIT}
use Rattle.mes_frame.specs.declared.write.WriteFault.{WriteFault}
use Rattle.mes_double_http.specs.Texts.{ok_text}
use Rattle.mes_stream.proofs.SendLemmas.{stream_of}
use Rattle.mes_msg.specs.Events.{event}
use Rattle.mes_stream.specs.Sending.{IsPlainOf}
use Rattle.mesosev_serve.specs.Writing.{Wrote, Stopped, Writes, WritesRecords}
use Rattle.mesosev_serve.specs.declared.response.Reply.TheVariants.{Stream}
use Rattle.mesosev_serve.specs.declared.response_writer.SendError.{SendError}
use Rattle.mesosev_serve.specs.declared.response_writer.SendError.TheVariants as unsent

-- ---- a text that was written by one or more calls

wrote : (a b : Device) (w : List ℕ) (all : ℕ) → WentOut a.bytes b.bytes a.counts b.counts w 0 all → Wrote a b w
wrote a b w all out = record { out = out.out; none_fails = out.good; calls = out.calls }

stopped : (a b : Device) (w : List ℕ) (f : WriteFault) → Stops a.bytes b.bytes a.counts b.counts w 0 f → Stopped a b w f
stopped a b w f stops = record { out = front_of a.bytes b.bytes w f.sent stops.part; last = stops.why; calls = stops.calls }

-- ---- a writer that failed

front_stops : (a b : Device) (w : List ℕ) (f : WriteFault) → (f.sent < length w) × Appends a.bytes b.bytes (take f.sent w)
    → StopsWrite f.why a.counts b.counts → CallsFor (length w) a.counts b.counts → (g : WriteFault) × Stops a.bytes b.bytes a.counts b.counts w 0 g
front_stops a b w f (short, out) why calls =
    let g : WriteFault = record f { sent = up 0 f.sent } in
    (g, part_stops a.bytes b.bytes a.counts b.counts w 0 g (record { n = f.sent; short = short; out = out; sent_is = refl }) why calls)

-- if v was written, and the writer then failed in w, the writer failed in v ++ w
behind_stops : (a b c : Device) (v w : List ℕ) (some : ℕ) (f : WriteFault) → WentOut a.bytes b.bytes a.counts b.counts v 0 some
    → WroteFront b.bytes c.bytes w f.sent → StopsWrite f.why b.counts c.counts → CallsFor (length w) b.counts c.counts
    → (g : WriteFault) × Stops a.bytes c.bytes a.counts c.counts (v ++ w) 0 g
behind_stops a b c v w some f first front why calls =
    let g : WriteFault = record f { sent = up some front.n } in
    let second = part_stops b.bytes c.bytes b.counts c.counts w some g (record { n = front.n; short = front.short; out = front.out; sent_is = refl }) why calls in
    (g, out_stops a.bytes b.bytes c.bytes a.counts b.counts c.counts v w 0 some g first second)

-- ---- the head of a stream, and its chunks

-- the writer failed in the head of the stream
pub head_stops : (T : Type 0) (most : ℕ) (id records : List ℕ) (a b : Device) (f : WriteFault) → 1 ≤ most
    → (f.sent < length (ok_text id)) × Appends a.bytes b.bytes (take f.sent (ok_text id)) → StopsWrite f.why a.counts b.counts
    → CallsFor (length (ok_text id)) a.counts b.counts → WritesRecords {T = T} most id records a b (Err unsent.Write)
head_stops T most id records a b f some out why calls =
    let framed = some_framing records most some in
    let head = front_stops a b (ok_text id) f out why calls in
    (framed.0, framed.1, (head.0, stopped a b (ok_text id ++ framed.0) head.0 (stops_long a.bytes b.bytes a.counts b.counts (ok_text id) framed.0 0 head.0 head.1)))

-- the state of the writer after the head of the stream was written
module _ (most : ℕ) (id records : List ℕ) (a b c : Device) (out : Appends a.bytes b.bytes (ok_text id)) (good : NoneFails a.counts b.counts) (calls : CallsFor (length (ok_text id)) a.counts b.counts) where
  head : WentOut a.bytes b.bytes a.counts b.counts (ok_text id) 0 (up 0 (length (ok_text id)))
  head = part_out a.bytes b.bytes a.counts b.counts (ok_text id) 0 (up 0 (length (ok_text id))) out good refl calls

  pub chunks_out : (T : Type 0) (done : T) → ((w : List ℕ) × IsFrames records most w × Appends b.bytes c.bytes w) → NoneFails b.counts c.counts
      → ((w : List ℕ) × IsFrames records most w × CallsFor (length w) b.counts c.counts) → WritesRecords most id records a c (Ok done)
  chunks_out T done (w, framed, goes) fine (v, same, asked) =
      let some = up 0 (length (ok_text id)) in
      let P : List ℕ → Type 0 = λ u. CallsFor (length u) b.counts c.counts in
      let second = part_out b.bytes c.bytes b.counts c.counts w some (up some (length w)) goes fine refl (subst P (framing_is_unique records v w most same framed) asked) in
      (w, framed, wrote a c (ok_text id ++ w) (up some (length w)) (both_out a.bytes b.bytes c.bytes a.counts b.counts c.counts (ok_text id) w 0 some (up some (length w)) head second))

  pub chunks_stop : (T : Type 0) (f : WriteFault) → ((w : List ℕ) × IsFrames records most w × WroteFront b.bytes c.bytes w f.sent)
      → StopsWrite f.why b.counts c.counts → ((w : List ℕ) × IsFrames records most w × CallsFor (length w) b.counts c.counts)
      → WritesRecords {T = T} most id records a c (Err unsent.Write)
  chunks_stop T f (w, framed, front) why (v, same, asked) =
      let P : List ℕ → Type 0 = λ u. CallsFor (length u) b.counts c.counts in
      let both = behind_stops a b c (ok_text id) w (up 0 (length (ok_text id))) f head front why (subst P (framing_is_unique records v w most same framed) asked) in
      (w, framed, (both.0, stopped a c (ok_text id ++ w) both.0 both.1))

-- `WritesRecords` for the records of the events implies `Writes` for the stream of the events
records_written : {T : Type 0} (most : ℕ) (id records : List ℕ) (events : List Event) (a b : Device) (sent : Result T SendError) → most < 2 ^ 64
    → IsPlainOf event DEFAULT_RECORD_LIMIT events records → WritesRecords most id records a b sent → Writes most (Stream id events) a b sent
records_written most id records events a b (Ok done) small plain (w, framed, out) =
    (ok_text id ++ w, (w, stream_of event (λ (d : Device). d) DEFAULT_RECORD_LIMIT events most records w small plain framed, refl), out)
records_written most id records events a b (Err unsent.Write) small plain (w, framed, stops) =
    (ok_text id ++ w, (w, stream_of event (λ (d : Device). d) DEFAULT_RECORD_LIMIT events most records w small plain framed, refl), stops)
records_written most id records events a b (Err unsent.NoMemory) small plain none = absurd none
records_written most id records events a b (Err unsent.Encode) small plain none = absurd none

pub stream_written : {T : Type 0} (most size : ℕ) (id records : List ℕ) (events : List Event) (a b : Device) (sent : Result T SendError) → size ≡ most → size < 2 ^ 64
    → IsPlainOf event DEFAULT_RECORD_LIMIT events records → WritesRecords size id records a b sent → Writes most (Stream id events) a b sent
stream_written {T = T} most size id records events a b sent same small plain wrote =
    subst (λ (n : ℕ). Writes n (Stream id events) a b sent) same (records_written size id records events a b sent small plain wrote)
