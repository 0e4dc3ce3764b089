-- The effect of `relog`: the entries of a log are written again, in version 2.
use Rattle.std.specs.Prelude.{◌≡◌, ℕ, ◌⊎◌, List, [], ◌∷◌, ◌++◌, Result, Ok, Err}
use Rattle.mes_frame.specs.Devices.{Device}
use Rattle.mes_msg.specs.declared.entry.Entry.{Entry}
use Rattle.mes_msg.specs.declared.send_fault.SendFault.{SendFault}
use Rattle.mes_stream.specs.Lines.{fault_text}
use Rattle.mes_stream.specs.SendLines.{send_text}
use Rattle.mes_stream.specs.Sending.{WroteAll}
use Rattle.mes_stream.specs.declared.fault.Report.{Report}
use Rattle.mes_stream.specs.declared.fault.Stop.{Stop}
use Rattle.mes_session.specs.Writing.{IsLogOf, StopsLog}
use Rattle.mesosev_stream.specs.Printing.{Tells}
use Rattle.mesosev_stream.specs.declared.exit_status.ExitStatus.{ExitStatus}
use Rattle.mesosev_stream.specs.declared.exit_status.ExitStatus.TheVariants as exit
use Rattle.mesosev_log.specs.Replaying.{ReadsLogInput}

-- The log was written, and nothing was printed to `err`. Or encoding or writing failed, and the
-- error was printed.
abbrev pub WritesLog : ℕ → List Entry → Device → Device → Device → Device → ExitStatus → Type 0
WritesLog limit entries out written err reported status =
    ((w : List ℕ) × IsLogOf limit entries w × WroteAll {W = Device} (λ d. d) out written w × (reported ≡ err) × (status ≡ exit.Success))
    ⊎ ((fault : SendFault) × StopsLog {W = Device} (λ d. d) limit entries out written fault
    × Tells err reported (send_text fault ++ 10 ∷ []) × (status ≡ exit.Fault))

-- the entries that were read were written, if the log ended; otherwise the error was printed
abbrev pub RelogsRead : ℕ → List Entry → Result Report Stop → Device → Device → Device → Device → ExitStatus → Type 0
RelogsRead limit entries (Ok report) out written err reported status = WritesLog limit entries out written err reported status
RelogsRead limit entries (Err stop) out written err reported status =
    (written ≡ out) × Tells err reported (fault_text stop.fault stop.used ++ 10 ∷ []) × (status ≡ exit.Fault)

-- some bytes w were read from the input, with some entries and result for which `RelogsRead` holds
abbrev pub Relogs : ℕ → Device → Device → Device → Device → Device → Device → ExitStatus → Type 0
Relogs limit input rest out written err reported status =
    (w : List ℕ) × (entries : List Entry) × (outcome : Result Report Stop) × ReadsLogInput limit input rest w entries outcome
    × RelogsRead limit entries outcome out written err reported status
