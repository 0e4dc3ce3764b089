-- Lemmas about the loop of `check_whole`, which reads a whole input record by record.
use Rattle.std.proofs.Common.{◌≡◌, ℕ, ◌+◌, ◌-◌, ◌<◌, ◌≤◌, List, [], ◌∷◌, ◌++◌, length, take, drop, refl, sym, ◌∙◌, subst, arith, length-append, length-drop, length-take-le, take-append-drop, take_all, Result, Ok, Err, inl, inr}
use Rattle.std.proofs.Math.Seq.{take-add}
use Rattle.std.specs.Prelude.{slice_index}
use Rattle.mes_msg.specs.Event.{Event}
use Rattle.mes_msg.specs.Events.{Spells}
use Rattle.mes_stream.specs.MessageData.{HoldsData}
use Rattle.mes_stream.specs.Framings.{GoesIn, EndsIn, ByteStopsIn, StopsWithin}
use Rattle.mes_stream.specs.Reading.{nothing_ahead}
use Rattle.mes_stream.specs.Refusals.{IsEventRefusal}
use Rattle.mes_stream.specs.Stream.{saturated}
use Rattle.mes_stream.specs.StreamReaders.{StreamRepresents}
use Rattle.mes_stream.specs.declared.message_reader.MessageReader.{MessageReader}
use Rattle.mes_stream.specs.declared.fault.Fault.{Fault}
use Rattle.mes_stream.specs.declared.fault.Stop.{Stop}
use Rattle.mes_stream.specs.declared.stream_reader.Framing.{Framing}
use Rattle.mes_stream.specs.declared.stream_reader.StreamReader.{StreamReader}
use Rattle.mes_stream.proofs.ReadingLemmas.{stops_at}
use Rattle.mesosev_c.specs.Inputs.{IsInput, EndsAll}

abbrev pub Going : StreamReader (MessageReader Event) → Framing → ℕ → List ℕ → List Event → Type 0
Going stream framing limit w events = StreamRepresents HoldsData Spells 0 stream framing limit w events

-- the first `at` bytes of an input were used, and `count` is the number of their events
pub record Counting (framing : Framing) (limit : ℕ) (bytes : List ℕ) (stream : StreamReader (MessageReader Event)) (at count : ℕ) : Type 0 where
  pub within : at ≤ length bytes
  pub events : List Event
  pub represents : Going stream framing limit (take at bytes) events
  pub counted : count ≡ saturated (length events)

module _ (framing : Framing) (limit : ℕ) (bytes : List ℕ) where
  pub counting_none : (stream : StreamReader (MessageReader Event)) → Going stream framing limit [] [] → Counting framing limit bytes stream 0 0
  counting_none stream s = record { within = omega arith; events = []; represents = s; counted = refl }

  module _ (old : StreamReader (MessageReader Event)) (at count used : ℕ) (h : Counting framing limit bytes old at count) (inside : used ≤ length (drop at bytes)) where
    pub counting_more : (new : StreamReader (MessageReader Event)) → Going new framing limit (take at bytes ++ take used (drop at bytes)) h.events → Counting framing limit bytes new (at + used) count
    counting_more new s = record {
      within = let low = h.within in omega (arith, inside, low, length-drop at bytes);
      events = h.events;
      represents = subst (λ (w : List ℕ). Going new framing limit w h.events) (sym (take-add at used bytes)) s;
      counted = h.counted;
    }

    pub counting_event : (new : StreamReader (MessageReader Event)) (event : Event) (next : ℕ) → next ≡ saturated (count + 1) → Going new framing limit (take at bytes ++ take used (drop at bytes)) (h.events ++ event ∷ [])
        → Counting framing limit bytes new (at + used) next
    counting_event new event next is s = record {
      within = let low = h.within in omega (arith, inside, low, length-drop at bytes);
      events = h.events ++ event ∷ [];
      represents = subst (λ (w : List ℕ). Going new framing limit w (h.events ++ event ∷ [])) (sym (take-add at used bytes)) s;
      counted = let counted = h.counted in is ∙ omega (arith, counted, length-append h.events (event ∷ []));
    }

    -- the outcome if the stream ends at a byte of the input
    pub ends_amid : EndsIn framing Spells limit (take at bytes ++ take used (drop at bytes)) h.events → IsInput framing limit bytes h.events (Ok (at + used))
    ends_amid ends =
        inr (let low = h.within in omega (arith, inside, low, length-drop at bytes), subst (λ (w : List ℕ). EndsIn framing Spells limit w h.events) (sym (take-add at used bytes)) ends)

    -- the outcome if an error is detected at a byte of the input
    pub stops_amid : (fault : Fault) → 0 < used → GoesIn framing Spells limit (take at bytes ++ take (used - 1) (drop at bytes)) h.events
        → ByteStopsIn framing Spells IsEventRefusal 0 limit (take at bytes ++ take (used - 1) (drop at bytes)) h.events (slice_index (drop at bytes) (used - 1)) fault
        → IsInput framing limit bytes h.events (Err (record { fault = fault; used = at + used }))
    stops_amid fault some live stops =
        let n : length (take at bytes) + used ≡ at + used = omega (arith, length-take-le at bytes h.within) in
        inr (subst (λ (k : ℕ). StopsWithin framing Spells IsEventRefusal 0 limit bytes h.events fault k) n
        (subst (λ (w : List ℕ). StopsWithin framing Spells IsEventRefusal 0 limit w h.events fault (length (take at bytes) + used)) (take-append-drop at bytes)
        (stops_at framing Spells IsEventRefusal nothing_ahead limit (take at bytes) (drop at bytes) h.events fault used some inside live stops)))

  -- the outcome if the input ends first
  pub ends_all : (stream : StreamReader (MessageReader Event)) (at count : ℕ) (h : Counting framing limit bytes stream at count) (outcome : Result ℕ Stop) → length bytes ≤ at
      → EndsAll framing limit (take at bytes) h.events (length bytes) outcome → IsInput framing limit bytes h.events outcome
  ends_all stream at count h outcome past ends = inl (subst (λ (w : List ℕ). EndsAll framing limit w h.events (length bytes) outcome) (take_all at bytes past) ends)
