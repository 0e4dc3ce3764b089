-- `Given` holds for the events that were read from the input.
use Rattle.std.proofs.Common.{◌≡◌, ◌∙◌, ◌++◌, ap, ℕ, List, [], ◌∷◌, Result, Ok, Err, refl, subst, sym}
use Rattle.std.specs.Prelude.{MatchResult}
use Rattle.std.specs.Io.KnownBytes.{Consumes}
use Rattle.mes_msg.specs.Event.{Event}
use Rattle.mes_frame.specs.Devices.{Device}
use Rattle.mes_frame.specs.declared.limits.TheConstants.{DEFAULT_RECORD_LIMIT}
use Rattle.mesosev_net.specs.Given.{Given}
use Rattle.mesosev_stream.specs.Printing.{Prints}
use Rattle.mesosev_stream.specs.declared.exit_status.ExitStatus.TheVariants as exit
use Rattle.mesosev_stream.specs.declared.outcome.RunOutcome.{RunOutcome}
use Rattle.mesosev_stream.specs.declared.limits.TheConstants.{MAX_READS}
use Rattle.mes_stream.specs.Lines.{fault_text}
use Rattle.mes_stream.specs.Reading.{EndsPlain}
use Rattle.mes_stream.specs.declared.fault.Report.{Report}
use Rattle.mes_stream.specs.declared.fault.Stop.{Stop}

module _ (Does : List Event → Type 0) (input rest out printed : Device) (ended : RunOutcome) (old new : List Event) (r : Result Report Stop) where
  -- the input was read, and its events were appended to the list `old`, which became `new`
  abbrev pub Reads : Type 0
  Reads = (w : List ℕ) × (more : List Event) × Consumes input.bytes rest.bytes w × (new ≡ old ++ more)
      × EndsPlain DEFAULT_RECORD_LIMIT MAX_READS input.counts rest.counts rest.bytes w more r

  pub given_events : (report : Report) → Reads → old ≡ [] → r ≡ Ok report → (slice : List Event) → slice ≡ new → Does slice → Given Does input rest out printed ended
  given_events report (w, more, consumes, is, ends) none good slice same does = (
    w,
    more,
    r,
    (consumes, ends),
    subst (λ (q : Result Report Stop). MatchResult q (λ _. Does more) (λ stop. Prints out printed (fault_text stop.fault stop.used ++ 10 ∷ []) exit.Fault ended)) (sym good)
        (subst Does (same ∙ is ∙ ap (λ (front : List Event). front ++ more) none) does),
  )

  pub given_fault : (stop : Stop) → Reads → r ≡ Err stop → Prints out printed (fault_text stop.fault stop.used ++ 10 ∷ []) exit.Fault ended → Given Does input rest out printed ended
  given_fault stop (w, more, consumes, is, ends) bad prints =
      (w, more, r, (consumes, ends), subst (λ (q : Result Report Stop). MatchResult q (λ _. Does more) (λ s. Prints out printed (fault_text s.fault s.used ++ 10 ∷ []) exit.Fault ended)) (sym bad) prints)
