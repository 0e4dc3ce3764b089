-- Whether tasks are of the agent of offers (mesos.proto, `Offer.agent_id`, `TaskInfo.agent_id`).
use Rattle.std.specs.Prelude.{Bool, List}
use Rattle.std.specs.List.{list_all}
use Rattle.std.specs.Str.{bytes_eq}
use Rattle.mes_model.specs.Id.{Id}
use Rattle.mes_model.specs.Offer.{Offer}
use Rattle.mes_model.specs.TaskInfo.{TaskInfo}

-- true if all offers are of the agent
abbrev pub are_of : Id → List Offer → Bool
are_of agent offers = list_all (λ (o : Offer). bytes_eq o.agent_id.value agent.value) offers

-- true if each task is of the agent of all offers
abbrev pub are_there : List Offer → List TaskInfo → Bool
are_there offers tasks = list_all (λ (t : TaskInfo). are_of t.agent_id offers) tasks
