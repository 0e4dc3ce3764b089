-- The printed lines for a socket that could not be opened.
use Rattle.std.specs.Prelude.{◌≡◌, ◌⊎◌, ℕ, List, codes}
use Rattle.mes_frame.specs.Devices.{Device}
use Rattle.mesosev_stream.specs.Printing.{LacksMemory, Prints}
use Rattle.mesosev_stream.specs.declared.exit_status.ExitStatus.TheVariants as exit
use Rattle.mesosev_stream.specs.declared.outcome.RunOutcome.{RunOutcome}

-- the line if the address could not be bound
abbrev pub bind_failed : List ℕ
bind_failed = codes "net bind failed\n"

-- the line if no connection could be accepted
abbrev pub accept_failed : List ℕ
accept_failed = codes "net accept failed\n"

-- the line if connecting to the peer failed
abbrev pub connect_failed : List ℕ
connect_failed = codes "net connect failed\n"

-- `line` is one of the three lines
abbrev pub IsNetLine : List ℕ → Type 0
IsNetLine line = (line ≡ bind_failed) ⊎ (line ≡ accept_failed) ⊎ (line ≡ connect_failed)

-- the line was printed, and the status is `Fault`
abbrev pub ReportsNet : List ℕ → Device → Device → RunOutcome → Type 0
ReportsNet line out printed ended = Prints out printed line exit.Fault ended
