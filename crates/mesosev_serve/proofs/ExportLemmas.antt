-- The lines of `subscribe --json` that are printed to standard error.
use Rattle.std.proofs.Common.{ℕ, List}
use Rattle.mes_frame.specs.Devices.{Device}
use Rattle.mes_msg.specs.declared.send_fault.SendFault.{SendFault}
use Rattle.mes_msg.specs.declared.send_fault.SendFault.TheVariants as send
use Rattle.mesosev_stream.proofs.PrintLemmas.{prints_told}
use Rattle.mesosev_stream.specs.Printing.{Tells}
use Rattle.mesosev_stream.specs.declared.exit_status.ExitStatus.TheVariants as exit
use Rattle.mesosev_stream.specs.declared.outcome.RunOutcome.{RunOutcome}
use Rattle.mesosev_serve.specs.Exporting.{unsent_line}
use Rattle.mesosev_serve.specs.Subscribing.{ReportsUnsent}

pub unsent_told : (old new : Device) (fault : SendFault) (ended : RunOutcome) → ReportsUnsent fault old new ended → Tells old new (unsent_line fault)
unsent_told old new send.NoMemory ended reports = prints_told old new (unsent_line send.NoMemory) exit.Fault ended reports
unsent_told old new (send.Encode index why) ended reports = prints_told old new (unsent_line (send.Encode index why)) exit.Fault ended reports
unsent_told old new (send.Write fault) ended reports = prints_told old new (unsent_line (send.Write fault)) exit.Fault ended reports
