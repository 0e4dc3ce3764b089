-- The calls that have given arguments (scheduler.proto, `Call`). ACCEPT, DECLINE and ACKNOWLEDGE
-- are in `mes_session_state`.
use Rattle.std.specs.Prelude.{ℕ, List, Option}
use Rattle.std.specs.Option.{option_or}
use Rattle.mes_model.specs.Id.{Id}
use Rattle.mes_model.specs.declared.framework_info.FrameworkInfo.{FrameworkInfo}
use Rattle.mes_model.specs.TaskRef.{TaskRef}
use Rattle.mes_msg.specs.Call.{Call}
use Rattle.mes_msg.specs.Call.TheVariants as of

-- the call and its FrameworkInfo name the known framework, or else the id in the FrameworkInfo
abbrev pub subscribe_call : Option Id → FrameworkInfo → Call
subscribe_call known info = of.Subscribe (option_or known info.id) (record { framework_info = record info { id = option_or known info.id } })

abbrev pub kill_call : Id → Id → Option Id → Call
kill_call framework task agent = of.Kill framework (record { task_id = task; agent_id = agent })

abbrev pub reconcile_call : Id → List TaskRef → Call
reconcile_call framework tasks = of.Reconcile framework (record { tasks = tasks })

abbrev pub shutdown_call : Id → Id → Id → Call
shutdown_call framework executor agent = of.Shutdown framework (record { executor_id = executor; agent_id = agent })

abbrev pub message_call : Id → Id → Id → List ℕ → Call
message_call framework agent executor bytes = of.Message framework (record { agent_id = agent; executor_id = executor; payload = bytes })
