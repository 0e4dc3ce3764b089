-- The bytes of a device decide the result of reading events from it as JSON Lines.
use Rattle.std.proofs.Common.{◌≡◌, ℕ, ◌+◌, ◌≤◌, min, List, [], ◌∷◌, ◌++◌, length, Option, None, Some, Result, Ok, Err, refl, ap, ap₂, sym, ◌∙◌, subst, append_assoc, append-nil, inl, inr, arith, length-append}
use Rattle.std.specs.Io.KnownBytes.{Consumes}
use Rattle.mes_frame.specs.declared.counts.Counts.{Counts}
use Rattle.mes_msg.specs.Events.{Spells}
use Rattle.mes_msg.specs.Event.{Event}
use Rattle.mes_stream.specs.Answers.{AnswersLines, IsDecidedByBytes, IsSameOutcome}
use Rattle.mes_stream.specs.JsonLines.{AreLines, LinesLive, LinesStop}
use Rattle.mes_stream.specs.LineReading.{ReadsLines}
use Rattle.mes_stream.specs.PlainReading.{PlainReading, Goes, Stops}
use Rattle.mes_stream.specs.Reading.{EndsReading}
use Rattle.mes_stream.specs.Refusals.{IsEventRefusal}
use Rattle.mes_stream.specs.Stream.{saturated}
use Rattle.mes_stream.specs.declared.fault.Report.{Report}
use Rattle.mes_stream.specs.declared.fault.Stop.{Stop}
use Rattle.mes_stream.specs.declared.stream_reader.Framing.TheVariants.{Lines}
use Rattle.mes_stream.proofs.OutcomeLaw.{StopsBy, all_taken, same_stop, whole_of}

-- Reading a device with the bytes w returns the events and the result, if w and a LF have the given
-- reading; the bytes `left` remain in the device. The LF is not counted.
abbrev IsOutcome : PlainReading Event → List ℕ → List ℕ → List Event → Result Report Stop → Type 0
IsOutcome (Goes values) w left events (Ok report) = (events ≡ values) × (report.used ≡ saturated (0 + length w)) × (report.rest.items ++ left ≡ [])
IsOutcome (Goes values) w left events (Err stop) = ⊥
IsOutcome (Stops front byte values fault) w left events (Ok report) = ⊥
IsOutcome (Stops front byte values fault) w left events (Err stop) = (events ≡ values) × StopsBy stop fault (min (length front + 1) (length w))

abbrev HasOutcome : ℕ → List ℕ → List ℕ → List Event → Result Report Stop → Type 0
HasOutcome limit w left events outcome = (reading : PlainReading Event) × ReadsLines Spells IsEventRefusal 0 limit (w ++ 10 ∷ []) reading × IsOutcome reading w left events outcome

shorter : (a b : ℕ) → a ≤ b → a ≡ min a b
shorter a b le = omega arith

longer : (b : ℕ) → b ≡ min (b + 1) b
longer b = omega arith

whole_live : (limit : ℕ) (w : List ℕ) (events : List Event) → AreLines Spells limit w events → LinesLive Spells limit w events
whole_live limit w events lines = record { whole = w; x = []; spelt = sym (append-nil w); lines = lines; is = record { is = tt; within = inl (omega arith) } }

lines_by : (limit reads : ℕ) (old new : Counts) (left w taken : List ℕ) (events : List Event) (outcome : Result Report Stop) → w ≡ taken ++ left → EndsReading Lines Spells IsEventRefusal limit reads old new (Some left) taken events outcome
    → IsDecidedByBytes outcome → HasOutcome limit w left events outcome
lines_by limit reads old new left w taken events (Ok report) all (inl (at, made)) decided = absurd at.ends
lines_by limit reads old new left w taken events (Err stop) all (inl (at, made)) decided =
    let s = at.stops in
    let whole = whole_of w taken left s.front (s.byte ∷ s.rest) all s.is in
    let len = ap length whole in
    let sum = length-append s.front (s.byte ∷ (s.rest ++ left)) in
    elim s.stops [
      | inl h ↦ (
        Stops s.front s.byte events stop.fault,
        ((s.rest ++ left) ++ 10 ∷ [], ap (λ (y : List ℕ). y ++ 10 ∷ []) whole ∙ append_assoc s.front (s.byte ∷ (s.rest ++ left)) (10 ∷ []), h),
        (refl, record { fault_is = refl; count = at.count ∙ ap (λ (n : ℕ). saturated (0 + n)) (s.used ∙ shorter (length s.front + 1) (length w) (omega (arith, len, sum))) }),
      )
      | inr h ↦ absurd (decided.0 h.0)
    ]
lines_by limit reads old new left w taken events (Ok report) all (inr (inl (means, end, made))) decided =
    let one = all_taken w taken left all end in
    let lines = subst (λ (y : List ℕ). AreLines Spells limit (y ++ 10 ∷ []) events) one means.0 in (
      Goes events,
      whole_live limit (w ++ 10 ∷ []) events lines,
      (refl, means.1 ∙ ap (λ (y : List ℕ). saturated (0 + length y)) one, ap₂ (λ (y z : List ℕ). y ++ z) means.2 end),
    )
lines_by limit reads old new left w taken events (Err stop) all (inr (inl (means, end, made))) decided =
    let one = all_taken w taken left all end in
    let stops = subst (λ (y : List ℕ). LinesStop Spells IsEventRefusal 0 limit y events 10 stop.fault) one means.0 in
    let count = means.1 ∙ ap (λ (y : List ℕ). saturated (0 + length y)) one in
    elim stops [
      | inl h ↦ (Stops w 10 events stop.fault, ([], refl, h), (refl, record { fault_is = refl; count = count ∙ ap (λ (n : ℕ). saturated (0 + n)) (longer (length w)) }))
      | inr h ↦ absurd (decided.0 h.0)
    ]
lines_by limit reads old new left w taken events (Ok report) all (inr (inr (inl (off, made)))) decided = absurd off
lines_by limit reads old new left w taken events (Err stop) all (inr (inr (inl (off, made)))) decided = absurd (decided.1 off.0)
lines_by limit reads old new left w taken events (Ok report) all (inr (inr (inr (off, made)))) decided = absurd off
lines_by limit reads old new left w taken events (Err stop) all (inr (inr (inr (off, made)))) decided = absurd (decided.2 off.0)

same_lines : (reading : PlainReading Event) (w left more : List ℕ) (events others : List Event) (outcome other : Result Report Stop) → IsOutcome reading w left events outcome → IsOutcome reading w more others other
    → (events ≡ others) × IsSameOutcome (Some left) (Some more) outcome other
same_lines (Goes values) w left more events others (Ok report) (Ok too) h k = (h.0 ∙ sym k.0, (h.1 ∙ sym k.1, h.2 ∙ sym k.2))
same_lines (Goes values) w left more events others (Ok report) (Err stop) h k = absurd k
same_lines (Goes values) w left more events others (Err stop) other h k = absurd h
same_lines (Stops front byte values fault) w left more events others (Ok report) other h k = absurd h
same_lines (Stops front byte values fault) w left more events others (Err stop) (Ok report) h k = absurd k
same_lines (Stops front byte values fault) w left more events others (Err stop) (Err too) h k = (h.0 ∙ sym k.0, same_stop stop too fault (min (length front + 1) (length w)) h.1 k.1)

abbrev pub OneLines : Type 0
OneLines = (limit : ℕ) (w : List ℕ) (reading other : PlainReading Event) → ReadsLines Spells IsEventRefusal 0 limit w reading → ReadsLines Spells IsEventRefusal 0 limit w other → reading ≡ other

lines_from : OneLines → (limit reads more : ℕ) (old new first last : Counts) (left right : Option (List ℕ)) (w taken given : List ℕ) (events others : List Event) (outcome other : Result Report Stop)
    → Consumes (Some w) left taken → Consumes (Some w) right given → EndsReading Lines Spells IsEventRefusal limit reads old new left taken events outcome
    → EndsReading Lines Spells IsEventRefusal limit more first last right given others other → IsDecidedByBytes outcome → IsDecidedByBytes other → (events ≡ others) × IsSameOutcome left right outcome other
lines_from one limit reads more old new first last None right w taken given events others outcome other consumes too h k known sure = absurd consumes
lines_from one limit reads more old new first last (Some left) None w taken given events others outcome other consumes too h k known sure = absurd too
lines_from one limit reads more old new first last (Some left) (Some right) w taken given events others outcome other consumes too h k known sure =
    let a = lines_by limit reads old new left w taken events outcome consumes h known in
    let b = lines_by limit more first last right w given others other too k sure in
    let same : b.0 ≡ a.0 = one limit (w ++ 10 ∷ []) b.0 a.0 b.1 a.1 in
    same_lines a.0 w left right events others outcome other a.2 (subst (λ (r : PlainReading Event). IsOutcome r w right others other) same b.2)

pub one_lines_answer : OneLines → (limit : ℕ) (w : List ℕ) (events others : List Event) (outcome other : Result Report Stop) (a : AnswersLines limit w events outcome) (b : AnswersLines limit w others other)
    → IsDecidedByBytes outcome → IsDecidedByBytes other → (events ≡ others) × IsSameOutcome a.left b.left outcome other
one_lines_answer one limit w events others outcome other a b known sure =
    lines_from one limit a.reads b.reads a.old a.new b.old b.new a.left b.left w a.taken b.taken events others outcome other a.consumes b.consumes a.ends b.ends known sure
