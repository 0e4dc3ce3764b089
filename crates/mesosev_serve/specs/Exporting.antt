-- Subscribing with JSON Lines: the events of the response are written to standard output as JSON
-- Lines, and all other lines to standard error.
use Rattle.std.specs.Prelude.{◌≡◌, ℕ, ◌⊎◌, List, [], ◌∷◌, ◌++◌, length}
use Rattle.std.specs.Io.KnownBytes.{Consumes}
use Rattle.mes_frame.specs.Devices.{Device}
use Rattle.mes_frame.specs.declared.limits.TheConstants.{DEFAULT_RECORD_LIMIT}
use Rattle.mes_double_http.specs.Endings.{GaveEach}
use Rattle.mes_double_http.specs.Responses.{OpensStream, BreaksStream, Refuses}
use Rattle.mes_double_http.specs.declared.fault.HeadFault.{HeadFault}
use Rattle.mes_model.specs.declared.framework_info.FrameworkInfo.{FrameworkInfo}
use Rattle.mes_msg.specs.declared.send_fault.SendFault.{SendFault}
use Rattle.mes_msg.specs.declared.send_fault.SendFault.TheVariants as send
use Rattle.mes_stream.specs.Lines.{fault_text}
use Rattle.mes_stream.specs.declared.fault.Fault.TheVariants.{NoMemory}
use Rattle.mes_stream.specs.declared.stream_reader.Framing.TheVariants.{Chunked}
use Rattle.mesosev_stream.specs.Messages.{events}
use Rattle.mesosev_stream.specs.JsonLines.{Exports}
use Rattle.mesosev_stream.specs.Printing.{Tells}
use Rattle.mesosev_stream.specs.declared.exit_status.ExitStatus.TheVariants as exit
use Rattle.mesosev_stream.specs.declared.outcome.RunOutcome.{RunOutcome}
use Rattle.mesosev_stream.specs.declared.outcome.RunOutcome.TheVariants.{Status}
use Rattle.mesosev_serve.specs.Lines.{write_failed_line}
use Rattle.mesosev_serve.specs.Subscribing.{SentSubscribe, StopsSubscribe, refused_line}

-- the line for a SUBSCRIBE that was not sent
abbrev pub unsent_line : SendFault → List ℕ
unsent_line send.NoMemory = fault_text NoMemory 0 ++ 10 ∷ []
unsent_line (send.Encode index why) = write_failed_line
unsent_line (send.Write fault) = write_failed_line

-- A head was read. If the head opens a stream, the events after it were written as `Exports` states;
-- the reads of the head are not counted. Otherwise the reason was printed to `err`, and nothing more
-- was read.
abbrev pub ExportsAnswer : ℕ → Device → Device → Device → Device → Device → Device → RunOutcome → Type 0
ExportsAnswer reads input rest out printed err reported ended =
    (taken : List ℕ) × (following : Device) × Consumes input.bytes following.bytes taken
    × (((id : List ℕ) × OpensStream taken id × GaveEach (length taken) input.counts following.counts
    × Exports events Chunked DEFAULT_RECORD_LIMIT reads following rest out printed err reported ended)
    ⊎ ((fault : HeadFault) × Refuses BreaksStream fault taken input.counts following.counts × (rest ≡ following) × (printed ≡ out)
    × Tells err reported (refused_line fault) × (ended ≡ Status exit.Fault)))

-- SUBSCRIBE was sent and the response exported; or SUBSCRIBE was not sent, the reason was printed to
-- `err`, and nothing was read
abbrev pub ExportsOver : FrameworkInfo → List ℕ → ℕ → Device → Device → Device → Device → Device → Device → Device → Device → RunOutcome → Type 0
ExportsOver info host reads input rest writer written out printed err reported ended =
    (SentSubscribe info host writer written × ExportsAnswer reads input rest out printed err reported ended)
    ⊎ ((fault : SendFault) × StopsSubscribe info host writer written fault × (rest ≡ input) × (printed ≡ out)
    × Tells err reported (unsent_line fault) × (ended ≡ Status exit.Fault))
