-- Which tasks of an ACCEPT are launched: all that fit the offers and are of their agent.
use Rattle.std.specs.Prelude.{◌≡◌, Bool, true, List, ◌++◌}
use Rattle.std.specs.List.{list_any}
use Rattle.std.specs.Str.{bytes_eq}
use Rattle.mes_model.specs.Id.{Id}
use Rattle.mes_model.specs.Offer.{Offer}
use Rattle.mes_model.specs.TaskInfo.{TaskInfo}
use Rattle.mes_msg.specs.Accept.{Accept}
use Rattle.mes_session_fit.specs.Fits.{Fits}
use Rattle.mes_session_fit.specs.Launched.{launched, launched_by}
use Rattle.mes_session_state.specs.Refusals.{ids_of}
use Rattle.mes_double_master.specs.Agents.{are_there}
use Rattle.mes_double_master.specs.Masters.{MasterState, launchable, named}
use Rattle.mes_double_master_state.specs.Ids.{new_tasks}

-- true if one of the tasks has the identifier
abbrev pub is_kept : Id → List TaskInfo → Bool
is_kept id tasks = list_any (λ (t : TaskInfo). bytes_eq id.value t.task_id.value) tasks

-- after the tasks `old`, all tasks with new identifiers were added, if these are of the offers' agent
abbrev pub AddsAll : List Id → List TaskInfo → List Offer → List TaskInfo → List TaskInfo → Type 0
AddsAll known tasks offers old new =
    let added = new_tasks (known ++ ids_of old) tasks in are_there offers added ≡ true → new ≡ old ++ added

-- the tasks are all those with new identifiers, if these fit the offers and are of their agent
abbrev pub IsAll : List TaskInfo → List Offer → List TaskInfo → Type 0
IsAll launches offers tasks = Fits offers launches → are_there offers launches ≡ true → tasks ≡ launches

-- The tasks fit the outstanding offers that the ACCEPT names. They are all that it launches, if those
-- fit the offers and are of their agent.
pub record IsPlan (m : MasterState) (body : Accept) (tasks : List TaskInfo) : Type 0 where
  pub fits : Fits (named body.offer_ids m.outstanding) tasks
  pub whole : IsAll (launchable m body.offer_ids (launched launched_by body.operations)) (named body.offer_ids m.outstanding) tasks
