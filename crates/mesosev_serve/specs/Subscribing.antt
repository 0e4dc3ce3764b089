-- Subscribing: SUBSCRIBE is sent, the head of the response is read, and the events of the body are
-- printed.
use Rattle.std.specs.Prelude.{◌≡◌, ℕ, ◌⊎◌, List, ◌++◌, length, None, Result, Ok, Err, codes}
use Rattle.std.specs.Io.KnownBytes.{Consumes}
use Rattle.mes_msg.specs.Call.{Call}
use Rattle.mes_frame.specs.Devices.{Device}
use Rattle.mes_frame.specs.declared.limits.TheConstants.{DEFAULT_RECORD_LIMIT}
use Rattle.mes_double_http.specs.Calls.{WroteCall, StopsCall}
use Rattle.mes_double_http.specs.Endings.{GaveEach}
use Rattle.mes_double_http.specs.Faults.{head_fault_text}
use Rattle.mes_double_http.specs.Responses.{OpensStream, BreaksStream, Refuses}
use Rattle.mes_double_http.specs.declared.fault.HeadFault.{HeadFault}
use Rattle.mes_model.specs.declared.framework_info.FrameworkInfo.{FrameworkInfo}
use Rattle.mes_msg.specs.declared.send_fault.SendFault.{SendFault}
use Rattle.mes_msg.specs.declared.send_fault.SendFault.TheVariants as send
use Rattle.mesosev_stream.specs.Printing.{Prints, LacksMemory}
use Rattle.mesosev_stream.specs.Messages.{events}
use Rattle.mesosev_stream.specs.Showing.{Shows}
use Rattle.mesosev_stream.specs.declared.exit_status.ExitStatus.TheVariants as exit
use Rattle.mesosev_stream.specs.declared.outcome.RunOutcome.{RunOutcome}
use Rattle.mes_session.specs.Made.{subscribe_call}
use Rattle.mesosev_serve.specs.Lines.{write_failed_line}
use Rattle.mes_stream.specs.declared.stream_reader.Framing.TheVariants.{Chunked}

-- the SUBSCRIBE of a new session, without a framework id
abbrev pub first_subscribe : FrameworkInfo → Call
first_subscribe info = subscribe_call None info

-- the request that has a SUBSCRIBE and no stream id was written completely
abbrev pub SentSubscribe : FrameworkInfo → List ℕ → Device → Device → Type 0
SentSubscribe info host old new = WroteCall (λ (d : Device). d) host None (first_subscribe info) old new

-- SUBSCRIBE could not be encoded, and nothing was written; or the writer failed
abbrev pub StopsSubscribe : FrameworkInfo → List ℕ → Device → Device → SendFault → Type 0
StopsSubscribe info host old new fault = StopsCall (λ (d : Device). d) host None (first_subscribe info) old new fault

abbrev pub SendsSubscribe : {T : Type 0} → FrameworkInfo → List ℕ → Device → Device → Result T SendFault → Type 0
SendsSubscribe info host old new (Ok done) = SentSubscribe info host old new
SendsSubscribe info host old new (Err fault) = StopsSubscribe info host old new fault

abbrev pub refused_line : HeadFault → List ℕ
refused_line f = codes "refused " ++ head_fault_text f ++ codes "\n"

-- A head was read. If the head opens a stream, the events after it were printed as `Shows` states;
-- the reads of the head are not counted. Otherwise the reason was printed, and nothing more was
-- read.
abbrev pub ShowsAnswer : ℕ → Device → Device → Device → Device → RunOutcome → Type 0
ShowsAnswer reads input rest out reported ended =
    (taken : List ℕ) × (following : Device) × Consumes input.bytes following.bytes taken
    × (((id : List ℕ) × OpensStream taken id × GaveEach (length taken) input.counts following.counts × Shows events Chunked DEFAULT_RECORD_LIMIT reads following rest out reported ended)
    ⊎ ((fault : HeadFault) × Refuses BreaksStream fault taken input.counts following.counts × (rest ≡ following) × Prints out reported (refused_line fault) exit.Fault ended))

-- the line for a SUBSCRIBE that was not sent was printed
abbrev pub ReportsUnsent : SendFault → Device → Device → RunOutcome → Type 0
ReportsUnsent send.NoMemory out reported ended = LacksMemory out reported ended
ReportsUnsent (send.Encode index why) out reported ended = Prints out reported write_failed_line exit.Fault ended
ReportsUnsent (send.Write fault) out reported ended = Prints out reported write_failed_line exit.Fault ended

-- SUBSCRIBE was sent and the response printed; or SUBSCRIBE was not sent, and nothing was read
abbrev pub SubscribesOver : FrameworkInfo → List ℕ → ℕ → Device → Device → Device → Device → Device → Device → RunOutcome → Type 0
SubscribesOver info host reads input rest writer written out reported ended =
    (SentSubscribe info host writer written × ShowsAnswer reads input rest out reported ended)
    ⊎ ((fault : SendFault) × StopsSubscribe info host writer written fault × ReportsUnsent fault out reported ended × (rest ≡ input))
