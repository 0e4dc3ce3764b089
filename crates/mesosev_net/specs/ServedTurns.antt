-- A test master that serves connections one after the other.
use Rattle.std.specs.Prelude.{◌≡◌, ◌⊎◌, ℕ, ◌+◌, ◌<◌, zero, suc, List, Result, Ok, Err}
use Rattle.mes_msg.specs.Event.{Event}
use Rattle.mes_frame.specs.Devices.{Device}
use Rattle.mes_frame.specs.declared.write.WriteFault.{WriteFault}
use Rattle.mesosev_serve.specs.Masters.{MasterState}
use Rattle.mesosev_serve.specs.Runs.{new_master}
use Rattle.mesosev_net.specs.Given.{Given, test_framework}
use Rattle.mesosev_net.specs.NetLines.{ReportsNet, accept_failed, bind_failed}
use Rattle.mesosev_net.specs.StreamIds.{ids_from}
use Rattle.mesosev_net.specs.declared.serving.TheConstants.{STREAM_CHUNK}
use Rattle.mesosev_stream.specs.Printing.{LacksMemory, ended_after}
use Rattle.mesosev_stream.specs.declared.exit_status.ExitStatus.TheVariants as exit
use Rattle.mesosev_stream.specs.declared.outcome.RunOutcome.{RunOutcome}
use Rattle.mesosev_stream.specs.declared.outcome.RunOutcome.TheVariants.{Status, OutputFailed}
use Rattle.mesosev_serve.specs.Serving.{ServesOne}
use Rattle.mesosev_serve.specs.declared.connection.Served.{Served}
use Rattle.mes_stream.specs.Stream.{saturated}

-- a connection over some socket was served
pub record ServesSome (most : ℕ) (before : MasterState) (given : List Event) (out printed : Device) (later : MasterState) (served : Result Served WriteFault) : Type 0 where
  pub input : Device
  pub rest : Device
  pub writer : Device
  pub written : Device
  pub serves : ServesOne before given most input rest writer written out printed later served

-- the next connection was served, and `bytes` bytes were printed; or accepting or printing failed
abbrev pub ServesNext : MasterState → List Event → Device → Device → MasterState → Result ℕ RunOutcome → Type 0
ServesNext before given out printed later (Ok bytes) = (served : Served) × ServesSome STREAM_CHUNK before given out printed later (Ok served) × (bytes ≡ served.printed)
ServesNext before given out printed later (Err ended) =
    (ReportsNet accept_failed out printed ended × (later ≡ before))
    ⊎ ((fault : WriteFault) × ServesSome STREAM_CHUNK before given out printed later (Err fault) × (ended ≡ OutputFailed fault.sent))

-- the given number of connections was served; `later` is then the state of the master, and `bytes`
-- the number of printed bytes
unfoldable pub Turned : ℕ → MasterState → List Event → Device → Device → MasterState → ℕ → Type 0
Turned zero before given out printed later bytes = (later ≡ before) × (printed ≡ out) × (bytes ≡ 0)
Turned (suc n) before given out printed later bytes =
    (between : MasterState) × (reported : Device) × (sum : ℕ) × (more : ℕ) × Turned n before given out reported between sum
    × ServesNext between given reported printed later (Ok more) × (bytes ≡ saturated (sum + more))

-- all `count` connections were served; or one of them failed, after the lines of the connections
-- before it were printed
abbrev pub ServesTurns : MasterState → List Event → ℕ → Device → Device → RunOutcome → Type 0
ServesTurns before given count out printed ended =
    ((later : MasterState) × (bytes : ℕ) × Turned count before given out printed later bytes × (ended ≡ Status exit.Success))
    ⊎ ((n : ℕ) × (between : MasterState) × (reported : Device) × (sum : ℕ) × (later : MasterState) × (last : RunOutcome) × (n < count)
    × Turned n before given out reported between sum × ServesNext between given reported printed later (Err last) × (ended ≡ ended_after sum last))

-- A test master was served: `count` connections, with consecutive stream ids from `first`, and the
-- events `given` for each stream. Or an allocation or binding failed, and a line was printed.
abbrev pub ServesEvents : List ℕ → ℕ → List Event → Device → Device → RunOutcome → Type 0
ServesEvents first count given out printed ended =
    LacksMemory out printed ended ⊎ ReportsNet bind_failed out printed ended
    ⊎ ServesTurns (new_master test_framework (ids_from first count)) given count out printed ended

-- the input was read, and a test master with its events was served
unfoldable pub Serves : List ℕ → ℕ → Device → Device → Device → Device → RunOutcome → Type 0
Serves first count input rest out printed ended = Given (λ events. ServesEvents first count events out printed ended) input rest out printed ended
