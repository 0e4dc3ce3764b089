use Rattle.std.proofs.Common.{sym, ◌∙◌, rules}
use Rattle.std.proofs.lemmas.Iterator.Adapters.{option_map_id}
use Rattle.std.proofs.lemmas.Iterator.{YieldsList-from_slice, YieldsList-from_map}
use Rattle.std.proofs.lemmas.Iterator.Consumers.{min_from_yields_List}
use Rattle.mes_double_cluster.specs.Updates.{due_from}
use Rattle.mes_double_cluster.proofs.sent_updates.first_due.Goals as goal

pub returns : goal.returns
returns c =
    sym (option_map_id c.min.result)
    ∙ min_from_yields_List c.map.result c.min.result c.min.ensures.ran
    (YieldsList-from_map _ (due_from c.args.every) (YieldsList-from_slice c.args.updates.now cc) c.map.ensures.closure (λ x r q k. search rules))
