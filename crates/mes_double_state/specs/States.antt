-- The state of a live test master as one JSON object, in canonical form.
use Rattle.std.specs.Prelude.{ℕ, List, [], ◌∷◌, ◌++◌, not, Option, None, Some, is_some, codes, decimal, map}
use Rattle.mes_json.specs.Canonical.{canonical}
use Rattle.mes_json.specs.Tree.{Tree}
use Rattle.mes_json.specs.Tree.Tree.{null, boolean, number, string, array, object}
use Rattle.mes_json.specs.View.{items_of, members_of}
use Rattle.mes_model.specs.Id.{Id}
use Rattle.mes_model_offer.specs.Offers.{offer}
use Rattle.mes_model_schema.specs.Binary.{base64_bytes}
use Rattle.mes_model_task.specs.TaskStates as task
use Rattle.mes_double_cluster.specs.OfferStates.{due_from}
use Rattle.mes_double_cluster.specs.declared.offer_state.OfferState.{OfferState}
use Rattle.mes_double_cluster.specs.declared.offer_state.OfferState.TheVariants.{Free, Outstanding, Used, Withdrawn}
use Rattle.mes_double_cluster.specs.declared.sent_updates.SentUpdate.{SentUpdate}
use Rattle.mes_double_cluster.specs.declared.stocked_offer.StockedOffer.{StockedOffer}
use Rattle.mes_double_cluster.specs.declared.task.Task.{Task}
use Rattle.mes_double_live.specs.Lives.{LiveState, faults}
use Rattle.mes_double_live.specs.declared.run_log.LogEntry.{LogEntry}
use Rattle.mes_double_live.specs.declared.run_log.LogEntry.TheVariants.{Sent, Answered}

-- the names of members and their trees
abbrev pub Pairs : Type 0
Pairs = List (List ℕ × Tree)

abbrev pub text_or_null : Option (List ℕ) → Tree
text_or_null None = null
text_or_null (Some text) = string text

abbrev pub number_or_null : Option ℕ → Tree
number_or_null None = null
number_or_null (Some n) = number (decimal n)

-- ---- offers

abbrev pub state_name : OfferState → List ℕ
state_name (Free time) = codes "FREE"
state_name Outstanding = codes "OUTSTANDING"
state_name (Used launch tasks) = codes "USED"
state_name Withdrawn = codes "WITHDRAWN"

-- the number of tasks that use an offer in this state
abbrev pub users : OfferState → ℕ
users (Used launch tasks) = tasks
users _ = 0

abbrev pub offer_tree : StockedOffer → Tree
offer_tree s =
    object (members_of (
    (codes "state", string (state_name s.state)) ∷ (codes "from", number_or_null (due_from s.state)) ∷ (codes "tasks", number (decimal (users s.state)))
    ∷ (codes "offer", offer.tree s.offer) ∷ []))

-- ---- tasks

-- a task is acknowledged if none of its updates waits for an acknowledgement
abbrev pub task_tree : Task → Tree
task_tree t =
    object (members_of (
    (codes "task_id", string t.id.value) ∷ (codes "agent_id", string t.agent.value) ∷ (codes "state", string (task.state_name t.progress.state))
    ∷ (codes "acknowledged", boolean (not (is_some t.progress.waiting))) ∷ (codes "killed", boolean t.progress.killed) ∷ []))

abbrev pub id_tree : Id → Tree
id_tree id = string id.value

abbrev pub ids_tree : List Id → Tree
ids_tree ids = array (items_of (map id_tree ids))

-- ---- updates

-- an unacknowledged update; the UUID is in base64
abbrev pub update_tree : SentUpdate → Tree
update_tree u =
    object (members_of (
    (codes "agent_id", string u.key.agent.value) ∷ (codes "task_id", string u.key.task.value) ∷ (codes "uuid", base64_bytes.tree u.key.uuid)
    ∷ (codes "sent", number (decimal u.at)) ∷ []))

-- ---- the log

abbrev pub sent_tree : List ℕ → Tree
sent_tree name = object (members_of ((codes "event", string name) ∷ []))

abbrev pub answered_tree : List ℕ → ℕ → Tree
answered_tree name status = object (members_of ((codes "call", string name) ∷ (codes "status", number (decimal status)) ∷ []))

abbrev pub entry_tree : LogEntry → Tree
entry_tree (Sent name) = sent_tree name
entry_tree (Answered name status) = answered_tree name status

-- ---- the state

-- the members from `framework` to `suppressed`
abbrev pub run_members : LiveState → Pairs
run_members live =
    (codes "framework", string live.master.framework.value) ∷ (codes "stream", text_or_null live.master.stream) ∷ (codes "time", number (decimal live.time))
    ∷ (codes "calls", number (decimal live.calls)) ∷ (codes "events", number (decimal live.out.count)) ∷ (codes "faults", number (decimal (faults live)))
    ∷ (codes "suppressed", boolean live.cluster.suppressed) ∷ []

-- the members from `offers` to `log`
abbrev pub list_members : LiveState → Pairs
list_members live =
    (codes "offers", array (items_of (map offer_tree live.cluster.stock))) ∷ (codes "tasks", array (items_of (map task_tree live.cluster.tasks)))
    ∷ (codes "launched", ids_tree live.master.launched) ∷ (codes "unacknowledged", array (items_of (map update_tree live.sent)))
    ∷ (codes "log", array (items_of (map entry_tree live.log))) ∷ []

abbrev pub state_tree : LiveState → Tree
state_tree live = object (members_of (run_members live ++ list_members live))

-- the canonical text of the state
abbrev pub state_text : LiveState → List ℕ
state_text live = canonical (state_tree live)
