use Rattle.mes_json.proofs.SpellLemmas.{node_held, node_spans}
use Rattle.mes_json.proofs.tape.spell.Spelling.put.Goals as goal

pub invariant_of-self-2 : goal.invariant_of-self-2
invariant_of-self-2 c =
    node_spans c.self.inside.texts.items c.self.inside.nodes.items c.put.new.self.items c.args.node c.in_ok-put.ensures.ok c.requires.text c.self.invariant

pub returns : goal.returns
returns c =
    node_held c.self.inside.texts.items c.self.inside.nodes.items c.put.new.self.items c.args.node c.args.self.now c.in_ok-put.ensures.ok c.requires.text c.self.view_is
