use Rattle.std.proofs.Common.{sym, ◌∙◌}
use Rattle.mes_json.proofs.PassingLemmas.{held_rest}
use Rattle.mes_json.proofs.skip.following_value.Goals as goal

pub returns-clause-held : goal.returns-clause-held
returns-clause-held c texts = held_rest texts c.args.nodes.now c.nodes_of_value.result ∙ sym (c.nodes_of_value.ensures.following texts)
