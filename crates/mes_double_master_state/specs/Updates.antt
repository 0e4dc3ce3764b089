-- The updates that were sent, by key, and those that are unacknowledged.
use Rattle.std.specs.Prelude.{Bool, not, List, filter, is_some}
use Rattle.std.specs.Map.{lookup}
use Rattle.mes_model.specs.OwedKey.{OwedKey}
use Rattle.mes_model.specs.TaskStatus.{TaskStatus}
use Rattle.mes_msg.specs.Acknowledge.{Acknowledge}
use Rattle.mes_session_state.specs.Held.{same_key, is_owed}

-- true if an update with the key was sent, acknowledged or not
abbrev pub has_update : List (OwedKey × TaskStatus) → OwedKey → Bool
has_update owing key = is_some (lookup (same_key key) owing)

abbrev pub key_in : Acknowledge → OwedKey
key_in body = record { agent = body.agent_id; task = body.task_id; uuid = body.uuid }

-- the updates whose keys are not in `acked`, the list of acknowledged keys
abbrev pub waiting : List (OwedKey × TaskStatus) → List OwedKey → List (OwedKey × TaskStatus)
waiting owing acked = filter (λ e. not (is_owed e.0 acked)) owing
