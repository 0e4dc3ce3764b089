-- How a run ends.
use Rattle.std.specs.Prelude.{ℕ, List, codes}
use Rattle.mes_msg.specs.declared.send_fault.SendFault.TheVariants.{Encode as unsent}
use Rattle.mes_stream.specs.Lines.{fault_text}
use Rattle.mes_stream.specs.SendLines.{send_text}
use Rattle.mes_stream.specs.declared.fault.Fault.TheVariants as fault
use Rattle.mes_double_live.specs.declared.fault.LiveFault.{LiveFault}
use Rattle.mes_double_live.specs.declared.fault.LiveFault.TheVariants.{NoMemory, Encode}
use Rattle.mesosev_stream.specs.declared.exit_status.ExitStatus.TheVariants as exit
use Rattle.mesosev_stream.specs.declared.outcome.RunOutcome.{RunOutcome}
use Rattle.mesosev_stream.specs.declared.outcome.RunOutcome.TheVariants.{Status}
use Rattle.mesosev_live.specs.declared.server.ServerStop.{ServerStop}
use Rattle.mesosev_live.specs.declared.server.ServerStop.TheVariants.{Live, Input, Poll}

abbrev pub live_fault_text : LiveFault → List ℕ
live_fault_text NoMemory = fault_text fault.NoMemory 0
live_fault_text (Encode why) = send_text (unsent 0 why)

-- the line of the reason for which a run ends early, without LF
abbrev pub stop_text : ServerStop → List ℕ
stop_text (Live f) = live_fault_text f
stop_text (Input stop) = fault_text stop.fault stop.used
stop_text Poll = codes "net accept failed"

-- the run succeeded, or ended with an error, or its output failed; it is no usage error
abbrev pub EndsRun : RunOutcome → Type 0
EndsRun (Status exit.Usage) = ⊥
EndsRun outcome = Unit {0}
