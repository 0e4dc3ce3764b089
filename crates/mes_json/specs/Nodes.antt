-- The view of a list of nodes in contracts. Cited by private clauses only.
use Rattle.std.specs.Prelude.{ℕ, List}
use Rattle.mes_json.specs.declared.tape.Node.{Node}

-- the nodes, with all lengths replaced by 0, and the capacity
pub record Nodes : Type 0 where
  pub items : List Node
  pub room : ℕ
