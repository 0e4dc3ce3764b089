-- The effect of `subscribe`: a scheduler subscribes to a master over a socket.
use Rattle.std.specs.Prelude.{◌⊎◌, ℕ, List}
use Rattle.mes_frame.specs.Devices.{Device}
use Rattle.mes_model.specs.declared.framework_info.FrameworkInfo.{FrameworkInfo}
use Rattle.mesosev_net.specs.Given.{plain_framework}
use Rattle.mesosev_net.specs.NetLines.{ReportsNet, connect_failed}
use Rattle.mesosev_stream.specs.Printing.{LacksMemory}
use Rattle.mesosev_stream.specs.declared.outcome.RunOutcome.{RunOutcome}
use Rattle.mesosev_serve.specs.Subscribing.{SubscribesOver}

-- the framework was subscribed over some socket, and the response was printed
pub record SubscribesSome (info : FrameworkInfo) (host : List ℕ) (reads : ℕ) (out printed : Device) (ended : RunOutcome) : Type 0 where
  pub input : Device
  pub rest : Device
  pub writer : Device
  pub written : Device
  pub subscribes : SubscribesOver info host reads input rest writer written out printed ended

-- `SubscribesSome` holds for a framework with the given user and name; or a line was printed,
-- because connecting or an allocation failed
unfoldable pub Subscribes : List ℕ → List ℕ → List ℕ → ℕ → Device → Device → RunOutcome → Type 0
Subscribes host user name reads out printed ended =
    LacksMemory out printed ended ⊎ ReportsNet connect_failed out printed ended
    ⊎ SubscribesSome (plain_framework user name) host reads out printed ended
