use Rattle.std.proofs.Common.{sym, ◌∙◌, rules, tests}
use Rattle.std.proofs.lemmas.Iterator.Adapters.{option_map_id}
use Rattle.std.proofs.lemmas.Iterator.{YieldsList-from_slice}
use Rattle.std.proofs.lemmas.Iterator.Consumers.{YieldsList-from_filter_map, min_from_yields_List}
use Rattle.mes_double_cluster.proofs.task_list.first_due.Goals as goal

pub returns : goal.returns
returns c =
    sym (option_map_id c.min.result)
    ∙ min_from_yields_List c.filter_map.result c.min.result c.min.ensures.ran
    (YieldsList-from_filter_map _ _ (YieldsList-from_slice c.args.tasks.now cc) c.filter_map.ensures.closure (λ x r q k. search (rules, tests)))
