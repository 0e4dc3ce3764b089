-- The effect of `replay`: the session of a log is printed.
use Rattle.std.specs.Prelude.{◌≡◌, ℕ, ◌⊎◌, List, [], ◌∷◌, ◌++◌, length, Result, Ok, Err}
use Rattle.std.specs.Io.KnownBytes.{Consumes}
use Rattle.mes_frame.specs.Devices.{Device}
use Rattle.mes_msg.specs.declared.entry.Entry.{Entry}
use Rattle.mes_stream.specs.Lines.{fault_text}
use Rattle.mes_stream.specs.declared.fault.Fault.TheVariants.{NoMemory}
use Rattle.mes_stream.specs.declared.fault.Report.{Report}
use Rattle.mes_stream.specs.declared.fault.Stop.{Stop}
use Rattle.mes_session.specs.Logs.{EndsLog}
use Rattle.mes_session.specs.Held.{Held}
use Rattle.mes_session.specs.Refusal.{Refusal}
use Rattle.mes_session.specs.History.{Represents, IsLegal, StopsAt}
use Rattle.mes_session.specs.Printed.{refusal_text, report_text}
use Rattle.mesosev_log.specs.SessionJson.{session_line}
use Rattle.mesosev_stream.specs.Printing.{LacksMemory, Prints, TellsFault}
use Rattle.mesosev_stream.specs.declared.exit_status.ExitStatus.TheVariants as exit
use Rattle.mesosev_stream.specs.declared.outcome.RunOutcome.{RunOutcome}
use Rattle.mesosev_stream.specs.declared.limits.TheConstants.{MAX_READS}

-- the bytes w were read from the input, with the given entries of a log and the given result
abbrev pub ReadsLogInput : ℕ → Device → Device → List ℕ → List Entry → Result Report Stop → Type 0
ReadsLogInput limit input rest w entries outcome = Consumes input.bytes rest.bytes w × EndsLog limit MAX_READS input.counts rest.counts rest.bytes w entries outcome

-- The report of the session was printed, or that an allocation for the report failed. Or an entry
-- is the first that cannot be applied (a call is refused, or an allocation failed), and the reason
-- was printed.
abbrev pub ReplaysEntries : List Entry → Device → Device → RunOutcome → Type 0
ReplaysEntries entries out printed ended =
    ((held : Held) × IsLegal entries × Represents entries held
    × (Prints out printed (report_text (length entries) held) exit.Success ended ⊎ LacksMemory out printed ended))
    ⊎ ((before : ℕ) × (refusal : Refusal) × StopsAt entries before refusal × Prints out printed (refusal_text refusal before ++ 10 ∷ []) exit.Fault ended)

-- like `ReplaysEntries`, but the session is printed as one JSON object, and errors to `err`
abbrev pub ReplaysEntriesJson : List Entry → Device → Device → Device → Device → RunOutcome → Type 0
ReplaysEntriesJson entries out printed err reported ended =
    ((held : Held) × IsLegal entries × Represents entries held
    × ((Prints out printed (session_line (length entries) held) exit.Success ended × (reported ≡ err))
    ⊎ TellsFault (fault_text NoMemory 0 ++ 10 ∷ []) out printed err reported ended))
    ⊎ ((before : ℕ) × (refusal : Refusal) × StopsAt entries before refusal × TellsFault (refusal_text refusal before ++ 10 ∷ []) out printed err reported ended)

-- the entries that were read were replayed, if the log ended; otherwise the error was printed
abbrev pub ReplaysRead : List Entry → Result Report Stop → Device → Device → RunOutcome → Type 0
ReplaysRead entries (Ok report) out printed ended = ReplaysEntries entries out printed ended
ReplaysRead entries (Err stop) out printed ended = Prints out printed (fault_text stop.fault stop.used ++ 10 ∷ []) exit.Fault ended

-- some bytes w were read from the input, with some entries and result for which `ReplaysRead` holds
abbrev pub Replays : ℕ → Device → Device → Device → Device → RunOutcome → Type 0
Replays limit input rest out printed ended =
    (w : List ℕ) × (entries : List Entry) × (outcome : Result Report Stop) × ReadsLogInput limit input rest w entries outcome
    × ReplaysRead entries outcome out printed ended

-- like `ReplaysRead` and `Replays`, but the session is printed as one JSON object, and errors to `err`
abbrev pub ReplaysReadJson : List Entry → Result Report Stop → Device → Device → Device → Device → RunOutcome → Type 0
ReplaysReadJson entries (Ok report) out printed err reported ended = ReplaysEntriesJson entries out printed err reported ended
ReplaysReadJson entries (Err stop) out printed err reported ended = TellsFault (fault_text stop.fault stop.used ++ 10 ∷ []) out printed err reported ended

abbrev pub ReplaysJson : ℕ → Device → Device → Device → Device → Device → Device → RunOutcome → Type 0
ReplaysJson limit input rest out printed err reported ended =
    (w : List ℕ) × (entries : List Entry) × (outcome : Result Report Stop) × ReadsLogInput limit input rest w entries outcome
    × ReplaysReadJson entries outcome out printed err reported ended
