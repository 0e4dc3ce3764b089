-- The identifiers of offers made and of tasks launched.
use Rattle.std.specs.Prelude.{Bool, false, ◌||◌, if◌then◌else◌, List, [], ◌∷◌, ◌++◌, map}
use Rattle.std.specs.Str.{bytes_eq}
use Rattle.mes_model.specs.Id.{Id}
use Rattle.mes_model.specs.Offer.{Offer}
use Rattle.mes_model.specs.TaskInfo.{TaskInfo}
use Rattle.mes_session_state.specs.Refusals.{is_among}

abbrev pub same_id : Id → Id → Bool
same_id a b = bytes_eq a.value b.value

abbrev pub offer_ids : List Offer → List Id
offer_ids offers = map (λ (o : Offer). o.id) offers

-- true if an identifier in the second list is also in `offered`, or occurs twice in the second list
abbrev pub is_duplicate : List Id → List Id → Bool
is_duplicate offered [] = false
is_duplicate offered (d ∷ ds) = (is_among d offered || is_among d ds) || is_duplicate offered ds

-- the tasks whose identifiers are not in `known`; of two tasks with one identifier, the first
abbrev pub new_tasks : List Id → List TaskInfo → List TaskInfo
new_tasks known [] = []
new_tasks known (t ∷ ts) = if is_among t.task_id known then new_tasks known ts else t ∷ new_tasks (known ++ t.task_id ∷ []) ts
