-- The end of the input, which ends the last line like a LF.
use Rattle.std.proofs.Common.{◌≡◌, ℕ, ◌+◌, ◌≤◌, List, [], ◌∷◌, ◌++◌, length, refl, sym, subst, arith, Result, Ok, Err}
use Rattle.mes_stream.specs.Framings.{EndsInput, StopsWithin}
use Rattle.mes_stream.specs.JsonLines.{AreLines, LinesStop}
use Rattle.mes_stream.specs.StreamReaders.{StreamFeeds, StreamRepresents}
use Rattle.mes_stream.specs.declared.fault.Fault.{Fault}
use Rattle.mes_stream.specs.declared.record_error.RecordError.{RecordError}
use Rattle.mes_stream.specs.declared.step.Decoded.{Decoded}
use Rattle.mes_stream.specs.declared.step.Decoded.TheVariants as out
use Rattle.mes_stream.specs.declared.stream_reader.Framing.TheVariants.{Plain, Chunked, Lines}
use Rattle.mes_stream.specs.declared.stream_reader.StreamReader.{StreamReader}
use Rattle.mes_stream.specs.declared.stream_reader.StreamReader.TheVariants as reader
use Rattle.mes_stream.proofs.LineLemmas.{line_whole, lf_last}
use Rattle.mes_stream.proofs.LineRecords.{same_front}

module _ {R E : Type 0} (holds : R → List ℕ → Type 0) (spells : List ℕ → E → Type 0) (breaks : List ℕ → RecordError → Type 0) (ahead : ℕ) where
  -- after a LF the bytes are whole lines
  lf_whole : (d : StreamReader R) (limit : ℕ) (w : List ℕ) (values : List E) → StreamRepresents holds spells ahead d Lines limit (w ++ 10 ∷ []) values → AreLines spells limit (w ++ 10 ∷ []) values
  lf_whole (reader.Plain body) limit w values (is, represents, same) = let clash : Lines ≡ Plain = is in absurd (cc)
  lf_whole (reader.Chunked chunked) limit w values (is, represents, same) = let clash : Lines ≡ Chunked = is in absurd (cc)
  lf_whole (reader.Lines lines) limit w values (is, represents, same) =
      subst (λ (n : ℕ). AreLines spells n (w ++ 10 ∷ []) values) same
      (line_whole holds spells ahead lines (w ++ 10 ∷ []) values represents (lf_last w represents.whole represents.x represents.is represents.spelt))

  -- an error at the LF
  lf_stops : (limit : ℕ) (w : List ℕ) (values : List E) (fault : Fault) (n : ℕ) → n ≡ length w + 1 → StopsWithin Lines spells breaks ahead limit (w ++ 10 ∷ []) values fault n → LinesStop spells breaks ahead limit w values 10 fault
  lf_stops limit w values fault n is h =
      let used = h.used in
      let on = same_front w h.front [] h.rest 10 h.byte (omega (arith, used, is)) h.is in
      subst (λ (c : ℕ). LinesStop spells breaks ahead limit w values c fault) (sym on.1) (subst (λ (y : List ℕ). LinesStop spells breaks ahead limit y values h.byte fault) (sym on.0) h.stops)

  -- the end of JSON Lines, from the result for a LF
  pub lf_ends : {V T : Type 0} (new : StreamReader R) (limit : ℕ) (w : List ℕ) (before old now : List E) (used : ℕ) (answer : Decoded V Fault) (result : Result T Fault) → used ≤ 1
      → StreamFeeds holds spells breaks ahead new Lines limit w before (10 ∷ []) old now used answer
      → ((fault : Fault) → answer ≡ out.Fault fault → result ≡ Err fault) → ((answer ≡ out.More) → (done : T) × (result ≡ Ok done))
      → (more : List E) × (now ≡ old ++ more) × EndsInput Lines spells breaks ahead limit w (before ++ more) result
  lf_ends new limit w before old now used out.More result short (more, same, represents) at on =
      let done = on refl in
      (more, same, rw done.1 (lf_whole new limit w (before ++ more) represents))
  lf_ends new limit w before old now used (out.Event value) result short fed at on = absurd fed
  lf_ends new limit w before old now used out.End result short (more, same, some, ends) at on = absurd ends
  lf_ends new limit w before old now used (out.Fault fault) result short (more, same, some, stops) at on =
      (more, same, rw (at fault refl) (lf_stops limit w (before ++ more) fault (length w + used) (omega (arith, short, some)) stops))
