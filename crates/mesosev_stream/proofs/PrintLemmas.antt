-- The outcome of a run after its last text was printed, and texts whose errors are ignored.
use Rattle.std.proofs.Common.{◌≡◌, ℕ, List, Result, Ok, Err, refl}
use Rattle.mes_frame.specs.Devices.{Device}
use Rattle.mes_frame.specs.declared.write.WriteFault.{WriteFault}
use Rattle.mesosev_stream.specs.Printing.{Prints, PrintsText, Tells, outcome_after}
use Rattle.mesosev_stream.specs.declared.exit_status.ExitStatus.{ExitStatus}
use Rattle.mesosev_stream.specs.declared.outcome.RunOutcome.{RunOutcome}
use Rattle.mesosev_stream.specs.declared.outcome.RunOutcome.TheVariants.{Status, OutputFailed}

pub prints_meant : (old new : Device) (text : List ℕ) (meant : ExitStatus) (printed : Result (Unit {0}) WriteFault) (ended : RunOutcome)
    → PrintsText old new text printed → ended ≡ outcome_after meant printed → Prints old new text meant ended
prints_meant old new text meant (Ok done) ended out is = rw is (out, refl)
prints_meant old new text meant (Err fault) ended cut is = rw is cut.0

-- the same text, for an output whose errors are ignored
pub prints_told : (old new : Device) (text : List ℕ) (meant : ExitStatus) (ended : RunOutcome) → Prints old new text meant ended → Tells old new text
prints_told old new text meant (Status status) prints = (Ok tt, prints.0)
prints_told old new text meant (OutputFailed sent) cut = (Err (record { sent = sent; why = cut.why }), (cut, cut.stops))
