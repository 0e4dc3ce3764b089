-- The outcome of a decoder does not depend on how the bytes are cut into pieces.
use Rattle.std.proofs.Common.{◌≡◌, ◌≢◌, ℕ, ◌+◌, ◌-◌, ◌<◌, ◌≤◌, List, [], ◌∷◌, ◌++◌, length, take, drop, Option, None, Some, refl, ap, sym, ◌∙◌, subst, append_assoc, append-nil, inl, inr, arith, length-append, length-drop, length-take-le, take-append-drop}
use Rattle.std.specs.Prelude.{slice_index}
use Rattle.std.proofs.lemmas.List.{take-append-le, drop-append-le}
use Rattle.mes_msg.specs.Events.{Spells}
use Rattle.mes_msg.specs.Event.{Event}
use Rattle.mes_stream.specs.Chunked.{Live}
use Rattle.mes_stream.specs.Decoders.{DecoderRepresents, DecoderStateRepresents, answer_of}
use Rattle.mes_stream.specs.MessageData.{HoldsData}
use Rattle.mes_stream.specs.Framings.{SaysIn}
use Rattle.mes_stream.specs.Pieces.{DecodeOutcome, decoded, after_call, Decodes, joined, HadMemory}
use Rattle.mes_stream.specs.Refusals.{IsEventRefusal}
use Rattle.mes_stream.specs.StreamReading.{StreamReading, Goes, Ends, Stops, ReadsStream}
use Rattle.mes_stream.specs.declared.decoder.RecordDecoder.{RecordDecoder}
use Rattle.mes_stream.specs.declared.decoder.State.{State}
use Rattle.mes_stream.specs.declared.decoder.State.TheVariants as state
use Rattle.mes_stream.specs.declared.decoder.StreamEnd.{StreamEnd}
use Rattle.mes_stream.specs.declared.decoder.StreamEnd.TheVariants.{Closed, Failed}
use Rattle.mes_stream.specs.declared.message_reader.MessageReader.{MessageReader}
use Rattle.mes_stream.specs.declared.fault.Fault.{Fault}
use Rattle.mes_stream.specs.declared.fault.Fault.TheVariants.{NoMemory}
use Rattle.mes_stream.specs.declared.stream_reader.Framing.TheVariants.{Chunked}
use Rattle.mes_stream.specs.declared.step.Decoded.{Decoded}
use Rattle.mes_stream.specs.declared.step.Decoded.TheVariants as out
use Rattle.mes_stream.proofs.BodyLemmas.{run_split}
use Rattle.mes_stream.proofs.ChunkLemmas.{says_more, says_on, take_whole}
use Rattle.mes_stream.proofs.StreamLemmas.{goes_of}

-- ---- several calls have the outcome of one call with all bytes

abbrev Any : List ℕ → List Event → Type 0
Any w events = Unit {0}

-- The outcome of one call with all bytes after w: the stream continues, has ended, or has an error.
abbrev Reached : ℕ → List ℕ → List Event → List ℕ → ℕ → Option StreamEnd → Type 0
Reached limit w events all used None = (used ≡ length all) × Live Spells limit (w ++ all) events
Reached limit w events all used (Some end) = (0 < used) × (used ≤ length all) × SaysIn Chunked Any Spells IsEventRefusal 0 limit w events all used (answer_of end)

live_at : (s : State (MessageReader Event)) (limit : ℕ) (w : List ℕ) (events : List Event) → DecoderStateRepresents HoldsData Spells s limit w events → Live Spells limit w events
live_at (state.Going stream) limit w events h = goes_of HoldsData Spells stream Chunked limit w events h
live_at (state.Ended end) limit w events h = absurd h

-- an outcome for the bytes after the first `at` bytes is an outcome for all bytes
moved : (limit : ℕ) (w : List ℕ) (events : List Event) (all : List ℕ) (at used : ℕ) (end : Option StreamEnd) → at ≤ length all → Reached limit (w ++ take at all) events (drop at all) used end
    → Reached limit w events all (at + used) end
moved limit w events all at used None within (is, live) = (
  omega (arith, is, within, length-drop at all),
  subst (λ (y : List ℕ). Live Spells limit y events) (append_assoc w (take at all) (drop at all) ∙ ap (λ (y : List ℕ). w ++ y) (take-append-drop at all)) live,
)
moved limit w events all at used (Some end) within (some, inside, says) =
    (omega (arith, some), omega (arith, inside, within, length-drop at all), says_on Chunked Any Spells IsEventRefusal 0 limit w all events at used (answer_of end) some says)

-- an outcome for the bytes after the first `at` of a piece is an outcome for all bytes
front_moved : (limit : ℕ) (w : List ℕ) (events : List Event) (piece rest : List ℕ) (at used : ℕ) (end : Option StreamEnd) → at ≤ length piece
    → Reached limit (w ++ take at piece) events (drop at piece ++ rest) used end → Reached limit w events (piece ++ rest) (at + used) end
front_moved limit w events piece rest at used end within h =
    let len = length-append piece rest in
    moved limit w events (piece ++ rest) at used end (omega (arith, within, len))
    (subst (λ (y : List ℕ). Reached limit (w ++ y) events (drop at (piece ++ rest)) used end) (sym (take-append-le at piece rest within))
    (subst (λ (y : List ℕ). Reached limit (w ++ take at piece) events y used end) (sym (drop-append-le at piece rest within)) h))

front_ended : (limit : ℕ) (w : List ℕ) (events : List Event) (piece rest : List ℕ) (used : ℕ) (end : StreamEnd) → 0 < used → used ≤ length piece
    → SaysIn Chunked Any Spells IsEventRefusal 0 limit w events piece used (answer_of end) → Reached limit w events (piece ++ rest) used (Some end)
front_ended limit w events piece rest used end some within says =
    let len = length-append piece rest in
    let front : piece ≡ take (length piece) (piece ++ rest) = sym (take_whole piece (length piece) refl) ∙ sym (take-append-le (length piece) piece rest (omega arith)) in (
      some,
      omega (arith, within, len),
      says_more Chunked Any Spells IsEventRefusal 0 limit w (piece ++ rest) events used (length piece) (answer_of end) some within
          (subst (λ (y : List ℕ). SaysIn Chunked Any Spells IsEventRefusal 0 limit w events y used (answer_of end)) front says),
    )

drop_whole : (piece : List ℕ) (used : ℕ) → used ≡ length piece → drop used piece ≡ []
drop_whole piece used all = none (drop used piece) (let len = length-drop used piece in omega (arith, all, len)) where
  none : (xs : List ℕ) → length xs ≡ 0 → xs ≡ []
  none [] is = refl
  none (x ∷ xs) is = absurd (omega (arith, is))

-- `Reached` holds for an outcome, if it holds for an equal one
as_outcome : (limit : ℕ) (w : List ℕ) (events : List Event) (all : List ℕ) (outcome other : DecodeOutcome) → outcome ≡ other → Reached limit w (events ++ other.events) all other.used other.end
    → Reached limit w (events ++ outcome.events) all outcome.used outcome.end
as_outcome limit w events all outcome other is h = subst (λ (o : DecodeOutcome). Reached limit w (events ++ o.events) all o.used o.end) (sym is) h

reached : (limit : ℕ) (d : RecordDecoder (MessageReader Event)) (pieces : List (List ℕ)) (calls : List (ℕ × Decoded Event Fault)) (outcome : DecodeOutcome) (w : List ℕ) (events : List Event) → DecoderRepresents HoldsData Spells d limit w events
    → Decodes d pieces calls outcome → Reached limit w (events ++ outcome.events) (joined pieces) outcome.used outcome.end
reached limit d [] [] outcome w events represents is =
    let live : Live Spells limit (w ++ []) (events ++ []) = rw (append-nil w, append-nil events) (live_at d.state limit w events represents) in
    as_outcome limit w events [] outcome (decoded [] None 0) is (refl, live)
reached limit d [] (call ∷ calls) outcome w events represents h = absurd h
reached limit d (piece ∷ pieces) [] outcome w events represents h = absurd h
reached limit d (piece ∷ pieces) ((used, out.More) ∷ calls) outcome w events represents (new, rest, call, later, is) =
    let all : used ≡ length piece = call.more refl in
    let on = reached limit new pieces calls rest (w ++ take used piece) events (call.says limit w events represents) later in
    as_outcome limit w events (piece ++ joined pieces) outcome (after_call used [] rest) is
    (front_moved limit w (events ++ rest.events) piece (joined pieces) used rest.used rest.end call.within
    (subst (λ (y : List ℕ). Reached limit (w ++ take used piece) (events ++ rest.events) (y ++ joined pieces) rest.used rest.end) (sym (drop_whole piece used all)) on))
reached limit d (piece ∷ pieces) ((used, out.Event event) ∷ calls) outcome w events represents (new, rest, call, later, is) =
    let on = reached limit new (drop used piece ∷ pieces) calls rest (w ++ take used piece) (events ++ event ∷ []) (call.says limit w events represents).0 later in
    as_outcome limit w events (piece ++ joined pieces) outcome (after_call used (event ∷ []) rest) is
    (front_moved limit w (events ++ event ∷ rest.events) piece (joined pieces) used rest.used rest.end call.within
    (subst (λ (es : List Event). Reached limit (w ++ take used piece) es (drop used piece ++ joined pieces) rest.used rest.end) (append_assoc events (event ∷ []) rest.events) on))
reached limit d (piece ∷ pieces) ((used, out.End) ∷ calls) outcome w events represents (new, call, is) =
    let ended = front_ended limit w events piece (joined pieces) used Closed (call.some limit w events represents (λ more. absurd (cc))) call.within (call.says limit w events represents) in
    as_outcome limit w events (piece ++ joined pieces) outcome (decoded [] (Some Closed) used) is
    (subst (λ (es : List Event). Reached limit w es (piece ++ joined pieces) used (Some Closed)) (sym (append-nil events)) ended)
reached limit d (piece ∷ pieces) ((used, out.Fault fault) ∷ calls) outcome w events represents (new, call, is) =
    let ended = front_ended limit w events piece (joined pieces) used (Failed fault) (call.some limit w events represents (λ more. absurd (cc))) call.within (call.says limit w events represents) in
    as_outcome limit w events (piece ++ joined pieces) outcome (decoded [] (Some (Failed fault)) used) is
    (subst (λ (es : List Event). Reached limit w es (piece ++ joined pieces) used (Some (Failed fault))) (sym (append-nil events)) ended)

-- ---- the outcome determines the reading of the bytes

abbrev reading_of : List ℕ → List Event → ℕ → Option StreamEnd → StreamReading Event
reading_of w events used None = Goes events
reading_of w events used (Some Closed) = Ends (take used w) events
reading_of w events used (Some (Failed fault)) = Stops (take (used - 1) w) (slice_index w (used - 1)) events fault

reads_of : (limit : ℕ) (w : List ℕ) (events : List Event) (used : ℕ) (end : Option StreamEnd) → Reached limit [] events w used end → end ≢ Some (Failed NoMemory)
    → ReadsStream Spells IsEventRefusal 0 limit w (reading_of w events used end)
reads_of limit w events used None h memory = h.1
reads_of limit w events used (Some Closed) (some, within, ends) memory = (drop used w, sym (take-append-drop used w), ends)
reads_of limit w events used (Some (Failed fault)) (some, within, stops) memory = elim stops [
  | inl shows ↦ (drop (used - 1 + 1) w, run_split w (used - 1) (omega (arith, some, within)), shows)
  | inr none ↦ absurd (memory (ap (λ (f : Fault). Some (Failed f)) none.0))
]

-- if the first m and the first n bytes of w are equal, so are m and n
same_take : (w : List ℕ) (m n : ℕ) → m ≤ length w → n ≤ length w → take m w ≡ take n w → m ≡ n
same_take w m n first second same =
    let len = ap length same in
    let a = length-take-le m w first in
    let b = length-take-le n w second in
    omega (arith, len, a, b)

make_same : (events others : List Event) (end other : Option StreamEnd) (used more : ℕ) → events ≡ others → end ≡ other → used ≡ more → decoded events end used ≡ decoded others other more
make_same events others end other used more one two three =
    ap (λ (es : List Event). decoded es end used) one ∙ ap (λ (e : Option StreamEnd). decoded others e used) two ∙ ap (λ (n : ℕ). decoded others other n) three

same_of : (limit : ℕ) (w : List ℕ) (events others : List Event) (used more : ℕ) (end other : Option StreamEnd) → Reached limit [] events w used end → Reached limit [] others w more other
    → reading_of w events used end ≡ reading_of w others more other → decoded events end used ≡ decoded others other more
same_of limit w events others used more None None h k same =
    let both : Goes events ≡ Goes others = same in
    let values : events ≡ others = cc in
    make_same events others None None used more values refl (h.0 ∙ sym k.0)
same_of limit w events others used more None (Some Closed) h k same = let clash : Goes events ≡ Ends (take more w) others = same in absurd (cc)
same_of limit w events others used more None (Some (Failed fault)) h k same =
    let clash : Goes events ≡ Stops (take (more - 1) w) (slice_index w (more - 1)) others fault = same in absurd (cc)
same_of limit w events others used more (Some Closed) None h k same = let clash : Ends (take used w) events ≡ Goes others = same in absurd (cc)
same_of limit w events others used more (Some Closed) (Some Closed) h k same =
    let both : Ends (take used w) events ≡ Ends (take more w) others = same in
    let values : events ≡ others = cc in
    let fronts : take used w ≡ take more w = cc in
    make_same events others (Some Closed) (Some Closed) used more values refl (same_take w used more h.1 k.1 fronts)
same_of limit w events others used more (Some Closed) (Some (Failed fault)) h k same =
    let clash : Ends (take used w) events ≡ Stops (take (more - 1) w) (slice_index w (more - 1)) others fault = same in absurd (cc)
same_of limit w events others used more (Some (Failed fault)) None h k same =
    let clash : Stops (take (used - 1) w) (slice_index w (used - 1)) events fault ≡ Goes others = same in absurd (cc)
same_of limit w events others used more (Some (Failed fault)) (Some Closed) h k same =
    let clash : Stops (take (used - 1) w) (slice_index w (used - 1)) events fault ≡ Ends (take more w) others = same in absurd (cc)
same_of limit w events others used more (Some (Failed fault)) (Some (Failed other)) h k same =
    let both : Stops (take (used - 1) w) (slice_index w (used - 1)) events fault ≡ Stops (take (more - 1) w) (slice_index w (more - 1)) others other = same in
    let values : events ≡ others = cc in
    let faults : fault ≡ other = cc in
    let fronts : take (used - 1) w ≡ take (more - 1) w = cc in
    let some = h.0 in
    let first = h.1 in
    let too = k.0 in
    let second = k.1 in
    let places = same_take w (used - 1) (more - 1) (omega (arith, first)) (omega (arith, second)) fronts in
    make_same events others (Some (Failed fault)) (Some (Failed other)) used more values (ap (λ (f : Fault). Some (Failed f)) faults) (omega (arith, places, some, too))

pub one_decoding : ((limit : ℕ) (w : List ℕ) (reading other : StreamReading Event) → ReadsStream Spells IsEventRefusal 0 limit w reading → ReadsStream Spells IsEventRefusal 0 limit w other → reading ≡ other)
    → (limit : ℕ) (first second : RecordDecoder (MessageReader Event)) (pieces others : List (List ℕ)) (calls more : List (ℕ × Decoded Event Fault)) (outcome other : DecodeOutcome)
    → DecoderRepresents HoldsData Spells first limit [] [] → DecoderRepresents HoldsData Spells second limit [] [] → joined pieces ≡ joined others
    → Decodes first pieces calls outcome → Decodes second others more other → HadMemory outcome → HadMemory other → outcome ≡ other
one_decoding one limit first second pieces others calls more outcome other starts begins same decodes also memory too =
    let a = reached limit first pieces calls outcome [] [] starts decodes in
    let b = subst (λ (y : List ℕ). Reached limit [] other.events y other.used other.end) (sym same) (reached limit second others more other [] [] begins also) in
    same_of limit (joined pieces) outcome.events other.events outcome.used other.used outcome.end other.end a b
    (one limit (joined pieces) (reading_of (joined pieces) outcome.events outcome.used outcome.end) (reading_of (joined pieces) other.events other.used other.end)
    (reads_of limit (joined pieces) outcome.events outcome.used outcome.end a memory) (reads_of limit (joined pieces) other.events other.used other.end b too))
