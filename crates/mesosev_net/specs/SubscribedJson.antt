-- The effect of `subscribe --json`: a scheduler subscribes to a master over a socket, and the events
-- are written as JSON Lines.
use Rattle.std.specs.Prelude.{◌⊎◌, ℕ, List, [], ◌∷◌, ◌++◌}
use Rattle.mes_frame.specs.Devices.{Device}
use Rattle.mes_model.specs.declared.framework_info.FrameworkInfo.{FrameworkInfo}
use Rattle.mes_stream.specs.Lines.{fault_text}
use Rattle.mes_stream.specs.declared.fault.Fault.TheVariants.{NoMemory}
use Rattle.mesosev_net.specs.Given.{plain_framework}
use Rattle.mesosev_net.specs.NetLines.{connect_failed}
use Rattle.mesosev_stream.specs.Printing.{TellsFault}
use Rattle.mesosev_stream.specs.declared.outcome.RunOutcome.{RunOutcome}
use Rattle.mesosev_serve.specs.Exporting.{ExportsOver}

-- the framework was subscribed over some socket, and the events of the response were written
pub record SubscribesOne (info : FrameworkInfo) (host : List ℕ) (reads : ℕ) (out printed err reported : Device) (ended : RunOutcome) : Type 0 where
  pub input : Device
  pub rest : Device
  pub writer : Device
  pub written : Device
  pub exports : ExportsOver info host reads input rest writer written out printed err reported ended

-- `SubscribesOne` holds for a framework with the given user and name; or a line was printed, because
-- connecting or an allocation failed
unfoldable pub SubscribesJson : List ℕ → List ℕ → List ℕ → ℕ → Device → Device → Device → Device → RunOutcome → Type 0
SubscribesJson host user name reads out printed err reported ended =
    TellsFault (fault_text NoMemory 0 ++ 10 ∷ []) out printed err reported ended
    ⊎ TellsFault connect_failed out printed err reported ended
    ⊎ SubscribesOne (plain_framework user name) host reads out printed err reported ended
