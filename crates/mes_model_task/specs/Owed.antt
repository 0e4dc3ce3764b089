-- The acknowledgement that a status update requires.
use Rattle.std.specs.Prelude.{ℕ, List, [], ◌∷◌, Option, Some, None, IsSome}
use Rattle.mes_model_resource.specs.declared.id.Id.{Id}
use Rattle.mes_model_task.specs.declared.owed_key.OwedKey.{OwedKey}
use Rattle.mes_model_task.specs.declared.task_status.TaskStatus.{TaskStatus}

-- the key of the task, the agent and the uuid of an update; `None` if the update has no agent, no
-- uuid, or an empty uuid
abbrev pub key_by : Id → Option Id → Option (List ℕ) → Option OwedKey
key_by task None uuid = None
key_by task (Some agent) None = None
key_by task (Some agent) (Some []) = None
key_by task (Some agent) (Some (byte ∷ bytes)) = Some (record { agent = agent; task = task; uuid = byte ∷ bytes })

-- the key of the acknowledgement that a status requires, if it requires one
abbrev pub owed_key_of : TaskStatus → Option OwedKey
owed_key_of status = key_by status.task_id status.agent_id status.uuid

abbrev pub Owes : TaskStatus → Type 0
Owes status = IsSome (owed_key_of status)
