-- The effect of `loopback`: both ends of a connection in one process.
use Rattle.std.specs.Prelude.{◌≡◌, ◌⊎◌, ℕ, Bool, true, false, List, Result, Ok, Err, codes}
use Rattle.std.specs.Int.{to_be_bytes, w128}
use Rattle.mes_msg.specs.Event.{Event}
use Rattle.mes_frame.specs.Devices.{Device}
use Rattle.mes_frame.specs.declared.write.WriteFault.{WriteFault}
use Rattle.mesosev_serve.specs.Masters.{MasterState}
use Rattle.mesosev_serve.specs.Runs.{new_master}
use Rattle.mes_model.specs.declared.framework_info.FrameworkInfo.{FrameworkInfo}
use Rattle.mes_msg.specs.declared.send_fault.SendFault.{SendFault}
use Rattle.mesosev_net.specs.Given.{Given, plain_framework, test_framework}
use Rattle.mesosev_net.specs.NetLines.{IsNetLine, ReportsNet}
use Rattle.mesosev_net.specs.ServedTurns.{ServesSome}
use Rattle.mesosev_net.specs.StreamIds.{ids_from}
use Rattle.mesosev_net.specs.declared.both_ends.TheConstants.{LOOPBACK_STREAM}
use Rattle.mesosev_stream.specs.Printing.{LacksMemory, Prints}
use Rattle.mesosev_stream.specs.declared.exit_status.ExitStatus.TheVariants as exit
use Rattle.mesosev_stream.specs.declared.outcome.RunOutcome.{RunOutcome}
use Rattle.mesosev_stream.specs.declared.limits.TheConstants.{MAX_READS}
use Rattle.mesosev_serve.specs.Lines.{write_failed_line}
use Rattle.mesosev_serve.specs.Subscribing.{SentSubscribe, StopsSubscribe, ShowsAnswer, ReportsUnsent}
use Rattle.mesosev_serve.specs.declared.connection.Served.{Served}

-- the id of the stream in `loopback`
abbrev pub loopback_stream : List ℕ
loopback_stream = to_be_bytes w128 LOOPBACK_STREAM

-- the subscribing framework, and the host in the request of that framework
abbrev pub loopback_framework : FrameworkInfo
loopback_framework = plain_framework (codes "root") (codes "loopback")

abbrev pub loopback_host : List ℕ
loopback_host = codes "127.0.0.1"

-- SUBSCRIBE was written completely to some socket
pub record SendsSome : Type 0 where
  pub writer : Device
  pub written : Device
  pub sends : SentSubscribe loopback_framework loopback_host writer written

-- SUBSCRIBE was not written to some socket, for the reason `fault`
pub record StopsSome (fault : SendFault) : Type 0 where
  pub writer : Device
  pub written : Device
  pub stops : StopsSubscribe loopback_framework loopback_host writer written fault

-- true if the whole response was written
abbrev pub is_whole : Result Served WriteFault → Bool
is_whole (Ok served) = served.answered
is_whole (Err fault) = false

-- a new test master served a connection; `whole` is true, if and only if the whole response was
-- written
pub record ServesLoop (first : List ℕ) (most : ℕ) (given : List Event) (whole : Bool) : Type 0 where
  pub out : Device
  pub dropped : Device
  pub later : MasterState
  pub served : Result Served WriteFault
  pub serves : ServesSome most (new_master test_framework (ids_from first 1)) given out dropped later served
  pub is : is_whole served ≡ whole

-- the bytes of some socket were printed as a response to SUBSCRIBE
pub record ShowsSome (out printed : Device) (ended : RunOutcome) : Type 0 where
  pub input : Device
  pub rest : Device
  pub shows : ShowsAnswer MAX_READS input rest out printed ended

-- the response was printed; or a line, because the response could not be encoded or an allocation
-- failed
abbrev pub AnswersLoop : List ℕ → ℕ → List Event → Device → Device → RunOutcome → Type 0
AnswersLoop first most given out printed ended =
    (ServesLoop first most given true × ShowsSome out printed ended)
    ⊎ (ServesLoop first most given false × Prints out printed write_failed_line exit.Fault ended)
    ⊎ LacksMemory out printed ended

-- The events were sent in chunks of `most` bytes and printed; or one line, because SUBSCRIBE was
-- not sent, a socket failed or an allocation failed.
abbrev pub LoopsEvents : List ℕ → ℕ → List Event → Device → Device → RunOutcome → Type 0
LoopsEvents first most given out printed ended =
    (SendsSome × AnswersLoop first most given out printed ended)
    ⊎ ((fault : SendFault) × StopsSome fault × ReportsUnsent fault out printed ended)
    ⊎ ((line : List ℕ) × IsNetLine line × ReportsNet line out printed ended)
    ⊎ LacksMemory out printed ended

-- the input was read, and its events were sent from one end to the other
unfoldable pub Loops : ℕ → Device → Device → Device → Device → RunOutcome → Type 0
Loops most input rest out printed ended = Given (λ events. LoopsEvents loopback_stream most events out printed ended) input rest out printed ended
