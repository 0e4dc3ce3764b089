-- The parts of a call that decide whether it is refused.
use Rattle.std.specs.Prelude.{List, [], ◌∷◌, Option, Some, None}
use Rattle.mes_model.specs.Id.{Id}
use Rattle.mes_model.specs.declared.filters.Filters.{Filters}
use Rattle.mes_model.specs.OwedKey.{OwedKey}
use Rattle.mes_model.specs.TaskInfo.{TaskInfo}
use Rattle.mes_msg.specs.Call.{Call}
use Rattle.mes_msg.specs.Call.TheVariants as of
use Rattle.mes_msg.specs.Operation.{Operation}
use Rattle.mes_msg.specs.Operation.TheVariants.{Launch}
use Rattle.mes_session_fit.specs.Launched.{launched, launched_by}

-- the framework that the call names; a SUBSCRIBE may name none
abbrev pub framework_of : Call → Option Id
framework_of (of.Subscribe framework body) = framework
framework_of (of.Accept framework body) = Some framework
framework_of (of.Decline framework body) = Some framework
framework_of (of.Revive framework) = Some framework
framework_of (of.Kill framework body) = Some framework
framework_of (of.Acknowledge framework body) = Some framework
framework_of (of.Reconcile framework body) = Some framework
framework_of (of.Teardown framework) = Some framework
framework_of (of.Suppress framework) = Some framework
framework_of (of.Shutdown framework body) = Some framework
framework_of (of.Message framework body) = Some framework

-- the offers that an ACCEPT accepts
abbrev pub accepted_by : Call → List Id
accepted_by (of.Accept framework body) = body.offer_ids
accepted_by _ = []

-- the offers that the call removes: those of an ACCEPT or a DECLINE
abbrev pub named_by : Call → List Id
named_by (of.Accept framework body) = body.offer_ids
named_by (of.Decline framework body) = body.offer_ids
named_by _ = []

-- the tasks that an ACCEPT launches, of all its operations in order
abbrev pub tasks_of : Call → List TaskInfo
tasks_of (of.Accept framework body) = launched launched_by body.operations
tasks_of _ = []

-- the key of the update that an ACKNOWLEDGE acknowledges
abbrev pub acknowledged_by : Call → Option OwedKey
acknowledged_by (of.Acknowledge framework body) = Some (record { agent = body.agent_id; task = body.task_id; uuid = body.uuid })
acknowledged_by _ = None

-- ---- the calls that have given arguments

-- one LAUNCH of the tasks, or no operation if there are no tasks
abbrev pub operations_of : List TaskInfo → List Operation
operations_of [] = []
operations_of (t ∷ ts) = Launch (t ∷ ts) ∷ []

abbrev pub accept_call : Id → List Id → List TaskInfo → Option Filters → Call
accept_call framework ids tasks filters = of.Accept framework (record { offer_ids = ids; operations = operations_of tasks; filters = filters })

abbrev pub decline_call : Id → List Id → Option Filters → Call
decline_call framework ids filters = of.Decline framework (record { offer_ids = ids; filters = filters })

abbrev pub acknowledge_call : Id → OwedKey → Call
acknowledge_call framework key = of.Acknowledge framework (record { agent_id = key.agent; task_id = key.task; uuid = key.uuid })
