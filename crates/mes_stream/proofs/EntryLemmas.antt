-- F16 does not occur if `breaks` never permits `BadEntry`.
use Rattle.std.proofs.Common.{◌≡◌, ◌≢◌, ℕ, List, Option, Result, Ok, Err, inl, inr, subst}
use Rattle.std.specs.Prelude.{IfErr}
use Rattle.mes_frame.specs.declared.counts.Counts.{Counts}
use Rattle.mes_stream.specs.Framings.{EndsInput, SaysIn, ByteStopsIn}
use Rattle.mes_stream.specs.Reading.{EndsReading}
use Rattle.mes_stream.specs.declared.fault.Fault.{Fault}
use Rattle.mes_stream.specs.declared.fault.Fault.TheVariants.{EndsInsideChunks, EndsInsideRecord, NoMemory, Read, ReadsSpent, BadEntry}
use Rattle.mes_stream.specs.declared.fault.Report.{Report}
use Rattle.mes_stream.specs.declared.fault.Stop.{Stop}
use Rattle.mes_stream.specs.declared.record_error.RecordError.{RecordError}
use Rattle.mes_stream.specs.declared.record_error.RecordError.TheVariants as refusal
use Rattle.mes_stream.specs.declared.stream_reader.Framing.{Framing}
use Rattle.mes_stream.specs.declared.stream_reader.Framing.TheVariants.{Plain, Chunked, Lines}
use Rattle.mes_stream.specs.declared.step.Decoded.{Decoded}
use Rattle.mes_stream.specs.declared.step.Decoded.TheVariants as out

module _ {E : Type 0} (spells : List ℕ → E → Type 0) (breaks : List ℕ → RecordError → Type 0) (none : (r : List ℕ) → breaks r refusal.BadEntry → ⊥) where
  no_entry : (framing : Framing) (ahead limit : ℕ) (w : List ℕ) (values : List E) (c n : ℕ) → ByteStopsIn framing spells breaks ahead limit w values c (BadEntry n) → ⊥
  no_entry Plain ahead limit w values c n (inl h) = none h.0.is.0 h.0.is.2
  no_entry Plain ahead limit w values c n (inr h) = let clash : BadEntry n ≡ NoMemory = h.0 in absurd (cc)
  no_entry Chunked ahead limit w values c n (inl h) = none h.3.0.is.0 h.3.0.is.2
  no_entry Chunked ahead limit w values c n (inr h) = let clash : BadEntry n ≡ NoMemory = h.0 in absurd (cc)
  no_entry Lines ahead limit w values c n (inl h) = none h.0.1.is.0 h.0.1.is.2
  no_entry Lines ahead limit w values c n (inr h) = let clash : BadEntry n ≡ NoMemory = h.0 in absurd (cc)

  pub none_said : (framing : Framing) (Represents : List ℕ → List E → Type 0) (ahead limit : ℕ) (w : List ℕ) (values : List E) (piece : List ℕ) (used : ℕ) (answer : Decoded E Fault) (n : ℕ)
      → SaysIn framing Represents spells breaks ahead limit w values piece used answer → answer ≢ out.Fault (BadEntry n)
  none_said framing Represents ahead limit w values piece used answer n says is =
      no_entry framing ahead limit _ values _ n (subst (λ (o : Decoded E Fault). SaysIn framing Represents spells breaks ahead limit w values piece used o) is says)

  -- the end of the input never results in F16
  no_entry_at_end : (framing : Framing) (ahead limit : ℕ) (w : List ℕ) (values : List E) (n : ℕ) → EndsInput {T = Unit {0}} framing spells breaks ahead limit w values (Err (BadEntry n)) → ⊥
  no_entry_at_end Plain ahead limit w values n h = let clash : BadEntry n ≡ EndsInsideRecord = h.1 in absurd (cc)
  no_entry_at_end Chunked ahead limit w values n h = let clash : BadEntry n ≡ EndsInsideChunks = h.1 in absurd (cc)
  no_entry_at_end Lines ahead limit w values n h = no_entry Lines ahead limit w values 10 n h

  pub none_read : (framing : Framing) (limit reads : ℕ) (old new : Counts) (last : Option (List ℕ)) (w : List ℕ) (values : List E) (outcome : Result Report Stop)
      → EndsReading framing spells breaks limit reads old new last w values outcome → IfErr outcome (λ stop. (n : ℕ) → stop.fault ≢ BadEntry n)
  none_read framing limit reads old new last w values (Ok report) h = tt
  none_read framing limit reads old new last w values (Err stop) (inl (at, asked)) = λ n is.
      let s = at.stops in
      no_entry framing 0 limit s.front values s.byte n (subst (λ (f : Fault). ByteStopsIn framing spells breaks 0 limit s.front values s.byte f) is s.stops)
  none_read framing limit reads old new last w values (Err stop) (inr (inl (means, end, asked))) = λ n is.
      no_entry_at_end framing 0 limit w values n (subst (λ (f : Fault). EndsInput {T = Unit {0}} framing spells breaks 0 limit w values (Err f)) is means.0)
  none_read framing limit reads old new last w values (Err stop) (inr (inr (inl (off, asked)))) = λ n is. let failed : stop.fault ≡ Read = off.0 in absurd (cc)
  none_read framing limit reads old new last w values (Err stop) (inr (inr (inr (off, asked)))) = λ n is. let spent : stop.fault ≡ ReadsSpent = off.0 in absurd (cc)
