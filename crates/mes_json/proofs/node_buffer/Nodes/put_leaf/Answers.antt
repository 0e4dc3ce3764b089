use Rattle.std.proofs.Common.{reverse}
use Rattle.mes_json.proofs.LengthsLemmas.{begun_leaf}
use Rattle.mes_json.proofs.node_buffer.Nodes.put_leaf.Goals as goal

pub invariant_of-self : goal.invariant_of-self
invariant_of-self c = rw c.push_reserved.ensures.items (begun_leaf (reverse c.self.inside.begins.items) c.self.inside.nodes.items c.args.node c.self.invariant c.requires.leaf)
