-- Bytes have at least one reading as JSON Lines, if each record has a value or an error.
use Rattle.std.proofs.Common.{◌≡◌, ◌≢◌, ℕ, ◌⊎◌, inl, inr, List, [], ◌∷◌, ◌++◌, refl, ap, sym, ◌∙◌, subst, append_assoc, append-nil, arith}
use Rattle.std.proofs.lemmas.Bool.{cases_eq}
use Rattle.mes_frame.specs.declared.fault.FrameFault.TheVariants.{RecordTooLarge}
use Rattle.mes_stream.specs.LineRecord.{IsRecordOf, IsFilled, LineBegun}
use Rattle.mes_stream.specs.JsonLines.{LinesLive, LinesShow}
use Rattle.mes_stream.specs.LineReading.{ReadsLines}
use Rattle.mes_stream.specs.PlainReading.{IsDecided, PlainReading, Goes, Stops}
use Rattle.mes_stream.specs.Stream.{number_after}
use Rattle.mes_stream.specs.declared.record_error.RecordError.{RecordError}
use Rattle.mes_stream.specs.declared.record_error.RecordError.TheVariants as refusal
use Rattle.mes_stream.specs.declared.fault.Fault.{Fault}
use Rattle.mes_stream.specs.declared.fault.Fault.TheVariants.{Frame, Text, Field, BadEntry}
use Rattle.mes_stream.proofs.LineRecords.{some_record, record_within, next_byte}
use Rattle.mes_stream.proofs.LinesMore.{lines_more, lines_blank, no_lines}

module _ {E : Type 0} (spells : List ℕ → E → Type 0) (breaks : List ℕ → RecordError → Type 0) (decided : IsDecided spells breaks) (ahead limit : ℕ) where
  -- the byte c after b makes a longer prefix of a stream, or an error is detected at c
  Next : List ℕ → List E → ℕ → Type 0
  Next b values c = ((more : List E) × LinesLive spells limit (b ++ c ∷ []) more) ⊎ ((fault : Fault) × LinesShow spells breaks ahead limit b values c fault)

  none_begun : LineBegun [] limit
  none_begun = record { is = tt; within = inl (omega arith) }

  -- the bytes after a LF
  seam : (b whole x : List ℕ) → b ≡ whole ++ x → b ++ 10 ∷ [] ≡ (whole ++ (x ++ 10 ∷ [])) ++ []
  seam b whole x is = ap (λ (y : List ℕ). y ++ 10 ∷ []) is ∙ append_assoc whole x (10 ∷ []) ∙ sym (append-nil (whole ++ (x ++ 10 ∷ [])))

  -- `Next` for the LF of a line with a record that is not empty
  filled_next : (b : List ℕ) (values : List E) (r : List ℕ) (live : LinesLive spells limit b values) → IsFilled live.x r limit → Next b values 10
  unfolding Next
  filled_next b values r live filled = elim (decided r) [
    | inl h ↦ inl (
      values ++ h.0 ∷ [],
      record {
        whole = live.whole ++ (live.x ++ 10 ∷ []);
        x = [];
        spelt = seam b live.whole live.x live.spelt;
        lines = lines_more spells limit live.whole live.x r values h.0 live.lines filled h.1;
        is = none_begun;
      },
    )
    | inr h ↦ inr (refused h.0 h.1 h.2)
  ] where
    refused : (f : RecordError) → f ≢ refusal.NoMemory → breaks r f → (fault : Fault) × LinesShow spells breaks ahead limit b values 10 fault
    refused (refusal.Text f) known h = (Text (number_after ahead values) f.byte f.why, ((refl, record { whole = live.whole; x = live.x; spelt = live.spelt; lines = live.lines; is = (r, filled, h) }), refl))
    refused (refusal.Field f) known h = (Field (number_after ahead values) f.path f.why, ((refl, record { whole = live.whole; x = live.x; spelt = live.spelt; lines = live.lines; is = (r, filled, h) }), refl))
    refused refusal.BadEntry known h = (BadEntry (number_after ahead values), ((refl, record { whole = live.whole; x = live.x; spelt = live.spelt; lines = live.lines; is = (r, filled, h) }), refl))
    refused refusal.NoMemory known h = absurd (known refl)

  -- `Next` for the LF of a line with the record r
  line_next : (b : List ℕ) (values : List E) (r : List ℕ) (live : LinesLive spells limit b values) → IsRecordOf live.x r → Next b values 10
  unfolding Next
  line_next b values [] live content = inl (
    values,
    record {
      whole = live.whole ++ (live.x ++ 10 ∷ []);
      x = [];
      spelt = seam b live.whole live.x live.spelt;
      lines = lines_blank spells limit live.whole live.x values live.lines (record { is = live.is.is; content = content });
      is = none_begun;
    },
  )
  line_next b values (a ∷ r) live content =
      filled_next b values (a ∷ r) live (record { is = live.is.is; content = content; some = λ none. absurd (cc); within = record_within live.x (a ∷ r) limit live.is content })

  next : (b : List ℕ) (values : List E) (c : ℕ) → LinesLive spells limit b values → Next b values c
  unfolding Next
  next b values c live = elim (cases_eq c 10) [
    | inl lf ↦ let has = some_record live.x in subst (λ (n : ℕ). Next b values n) (sym lf) (line_next b values has.0 live has.1)
    | inr not ↦ elim (next_byte live.x c limit live.is not) [
      | inl begun ↦ inl (
        values,
        record { whole = live.whole; x = live.x ++ c ∷ []; spelt = ap (λ (y : List ℕ). y ++ c ∷ []) live.spelt ∙ append_assoc live.whole live.x (c ∷ []); lines = live.lines; is = begun },
      )
      | inr long ↦ inr (Frame RecordTooLarge, record { whole = live.whole; x = live.x; spelt = live.spelt; lines = live.lines; is = long })
    ]
  ]

  ReadLines : List ℕ → Type 0
  ReadLines w = (reading : PlainReading E) × ReadsLines spells breaks ahead limit w reading

  lines_on : (rest b : List ℕ) (values : List E) → LinesLive spells limit b values → ReadLines (b ++ rest)
  unfolding ReadLines Next
  lines_on [] b values live = rw append-nil (Goes values, live)
  lines_on (c ∷ rest) b values live = elim (next b values c live) [
    | inl h ↦ subst ReadLines (append_assoc b (c ∷ []) rest) (lines_on rest (b ++ c ∷ []) h.0 h.1)
    | inr h ↦ (Stops b c values h.0, (rest, refl, h.1))
  ]

  pub some_lines : (w : List ℕ) → (reading : PlainReading E) × ReadsLines spells breaks ahead limit w reading
  unfolding ReadLines
  some_lines w = lines_on w [] [] (record { whole = []; x = []; spelt = refl; lines = no_lines spells limit; is = none_begun })
