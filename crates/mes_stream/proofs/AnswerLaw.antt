-- Two chunkings of one body have the same result.
use Rattle.std.proofs.Common.{◌≡◌, ℕ, List, ◌∷◌, ◌++◌, Option, None, Some, Result, Ok, Err, refl, ap, sym, ◌∙◌, subst, append_assoc, append-nil, inl, inr}
use Rattle.std.specs.Io.KnownBytes.{Consumes}
use Rattle.mes_frame.specs.declared.counts.Counts.{Counts}
use Rattle.mes_msg.specs.Events.{Spells}
use Rattle.mes_msg.specs.Event.{Event}
use Rattle.mes_stream.specs.Answers.{AnswersStream, IsDecidedByBytes, EndsAlike}
use Rattle.mes_stream.specs.Chunked.{Live}
use Rattle.mes_stream.specs.Reading.{EndsStream}
use Rattle.mes_stream.specs.Refusals.{IsEventRefusal}
use Rattle.mes_stream.specs.StreamReading.{StreamReading, Goes, Ends, Stops, ReadsStream, IsAlike}
use Rattle.mes_stream.specs.declared.fault.Fault.TheVariants.{EndsInsideChunks}
use Rattle.mes_stream.specs.declared.fault.Report.{Report}
use Rattle.mes_stream.specs.declared.fault.Stop.{Stop}

-- reading a device returns the events and the result, if its bytes have the given reading
abbrev pub IsAnswer : StreamReading Event → List Event → Result Report Stop → Type 0
IsAnswer (Goes values) events (Ok report) = ⊥
IsAnswer (Goes values) events (Err stop) = (events ≡ values) × (stop.fault ≡ EndsInsideChunks)
IsAnswer (Ends front values) events (Ok report) = events ≡ values
IsAnswer (Ends front values) events (Err stop) = ⊥
IsAnswer (Stops front byte values fault) events (Ok report) = ⊥
IsAnswer (Stops front byte values fault) events (Err stop) = (events ≡ values) × (stop.fault ≡ fault)

abbrev pub Answered : ℕ → List ℕ → List Event → Result Report Stop → Type 0
Answered limit w events outcome = (reading : StreamReading Event) × ReadsStream Spells IsEventRefusal 0 limit w reading × IsAnswer reading events outcome

-- the reading of the consumed bytes is a reading of all bytes w of the device
answered_by : (limit reads : ℕ) (old new : Counts) (left w taken : List ℕ) (events : List Event) (outcome : Result Report Stop) → w ≡ taken ++ left → EndsStream limit reads old new (Some left) taken events outcome → IsDecidedByBytes outcome
    → Answered limit w events outcome
answered_by limit reads old new left w taken events (Ok report) whole (inl (at, made)) decided =
    (Ends at.stream events, (report.rest.items ++ left, whole ∙ ap (λ (y : List ℕ). y ++ left) at.is ∙ append_assoc at.stream report.rest.items left, at.ends), refl)
answered_by limit reads old new left w taken events (Err stop) whole (inl (at, made)) decided =
    let s = at.stops in
    elim s.stops [
      | inl h ↦ (Stops s.front s.byte events stop.fault, (s.rest ++ left, whole ∙ ap (λ (y : List ℕ). y ++ left) s.is ∙ append_assoc s.front (s.byte ∷ s.rest) left, h), (refl, refl))
      | inr h ↦ absurd (decided.0 h.0)
    ]
answered_by limit reads old new left w taken events (Ok report) whole (inr (inl (means, end, made))) decided = absurd means.0
answered_by limit reads old new left w taken events (Err stop) whole (inr (inl (means, end, made))) decided =
    let all : taken ≡ w = sym (append-nil taken) ∙ ap (λ (y : List ℕ). taken ++ y) (sym end) ∙ sym whole in
    (Goes events, subst (λ (y : List ℕ). Live Spells limit y events) all means.0.0, (refl, means.0.1))
answered_by limit reads old new left w taken events (Ok report) whole (inr (inr (inl (off, made)))) decided = absurd off
answered_by limit reads old new left w taken events (Err stop) whole (inr (inr (inl (off, made)))) decided = absurd (decided.1 off.0)
answered_by limit reads old new left w taken events (Ok report) whole (inr (inr (inr (off, made)))) decided = absurd off
answered_by limit reads old new left w taken events (Err stop) whole (inr (inr (inr (off, made)))) decided = absurd (decided.2 off.0)

answered_from : (limit reads : ℕ) (old new : Counts) (left : Option (List ℕ)) (w taken : List ℕ) (events : List Event) (outcome : Result Report Stop) → Consumes (Some w) left taken → EndsStream limit reads old new left taken events outcome → IsDecidedByBytes outcome
    → Answered limit w events outcome
answered_from limit reads old new None w taken events outcome consumes ends decided = absurd consumes
answered_from limit reads old new (Some left) w taken events outcome consumes ends decided = answered_by limit reads old new left w taken events outcome consumes ends decided

pub answered : (limit : ℕ) (w : List ℕ) (events : List Event) (outcome : Result Report Stop) → AnswersStream limit w events outcome → IsDecidedByBytes outcome → Answered limit w events outcome
answered limit w events outcome a decided = answered_from limit a.reads a.old a.new a.left w a.taken events outcome a.consumes a.ends decided

-- bytes with the same reading have the same result
pub same_answer : (reading other : StreamReading Event) (events others : List Event) (outcome too : Result Report Stop) → IsAlike reading other → IsAnswer reading events outcome → IsAnswer other others too
    → (events ≡ others) × EndsAlike outcome too
same_answer (Goes a) (Goes b) events others (Ok r) too alike h g = absurd h
same_answer (Goes a) (Goes b) events others (Err s) (Ok r) alike h g = absurd g
same_answer (Goes a) (Goes b) events others (Err s) (Err t) alike h g = (h.0 ∙ alike ∙ sym g.0, h.1 ∙ sym g.1)
same_answer (Goes a) (Ends v b) events others outcome too alike h g = absurd alike
same_answer (Goes a) (Stops v c b f) events others outcome too alike h g = absurd alike
same_answer (Ends u a) (Goes b) events others outcome too alike h g = absurd alike
same_answer (Ends u a) (Ends v b) events others (Ok r) (Ok q) alike h g = (h ∙ alike ∙ sym g, tt)
same_answer (Ends u a) (Ends v b) events others (Ok r) (Err t) alike h g = absurd g
same_answer (Ends u a) (Ends v b) events others (Err s) too alike h g = absurd h
same_answer (Ends u a) (Stops v c b f) events others outcome too alike h g = absurd alike
same_answer (Stops u d a e) (Goes b) events others outcome too alike h g = absurd alike
same_answer (Stops u d a e) (Ends v b) events others outcome too alike h g = absurd alike
same_answer (Stops u d a e) (Stops v c b f) events others (Ok r) too alike h g = absurd h
same_answer (Stops u d a e) (Stops v c b f) events others (Err s) (Ok r) alike h g = absurd g
same_answer (Stops u d a e) (Stops v c b f) events others (Err s) (Err t) alike h g = (h.0 ∙ alike.0 ∙ sym g.0, h.1 ∙ alike.1 ∙ sym g.1)
