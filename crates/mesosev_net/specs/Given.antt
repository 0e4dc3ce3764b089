-- The events given to a test master, and the frameworks of the test master and the scheduler.
use Rattle.std.specs.Prelude.{◌≡◌, ℕ, List, [], ◌∷◌, ◌++◌, Option, None, Result, MatchResult, codes}
use Rattle.mes_msg.specs.Event.{Event}
use Rattle.mes_frame.specs.Devices.{Device}
use Rattle.mes_frame.specs.declared.limits.TheConstants.{DEFAULT_RECORD_LIMIT}
use Rattle.mes_model.specs.declared.framework_info.FrameworkInfo.{FrameworkInfo}
use Rattle.mes_model.specs.Id.{Id}
use Rattle.mesosev_stream.specs.Messages.{events as these}
use Rattle.mesosev_stream.specs.Printing.{Prints, ReadsInput}
use Rattle.mesosev_stream.specs.declared.exit_status.ExitStatus.TheVariants as exit
use Rattle.mesosev_stream.specs.declared.outcome.RunOutcome.{RunOutcome}
use Rattle.mesosev_stream.specs.declared.limits.TheConstants.{MAX_READS}
use Rattle.mes_stream.specs.Lines.{fault_text}
use Rattle.mes_stream.specs.declared.fault.Report.{Report}
use Rattle.mes_stream.specs.declared.fault.Stop.{Stop}
use Rattle.mes_stream.specs.declared.stream_reader.Framing.TheVariants.{Plain}

-- the input was read as plain RecordIO, and `Does` holds for its events; or its error was printed
abbrev pub Given : (List Event → Type 0) → Device → Device → Device → Device → RunOutcome → Type 0
Given Does input rest out printed ended =
    (w : List ℕ) × (events : List Event) × (outcome : Result Report Stop)
    × ReadsInput these Plain DEFAULT_RECORD_LIMIT MAX_READS input rest w events outcome
    × MatchResult outcome (λ report. Does events) (λ stop. Prints out printed (fault_text stop.fault stop.used ++ 10 ∷ []) exit.Fault ended)

-- the framework id of a test master
abbrev pub test_framework : Id
test_framework = record { value = codes "F1" }

-- a framework with only the given user and name
abbrev pub plain_framework : List ℕ → List ℕ → FrameworkInfo
plain_framework user name = record {
  user = user;
  name = name;
  id = None;
  failover_timeout = None;
  checkpoint = None;
  roles = [];
  hostname = None;
  principal = None;
  capabilities = [];
}
