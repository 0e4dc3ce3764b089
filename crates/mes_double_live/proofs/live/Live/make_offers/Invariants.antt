use Rattle.std.proofs.Common.{◌≡◌}
use Rattle.mes_double_live.specs.Moving.{Moves}
use Rattle.mes_double_live.specs.Steps.{MakesAll}
use Rattle.mes_double_live.proofs.live.Live.make_offers.Given as goal

-- the test master moved by deeds, which made the offers so far, and only it and the cluster changed, whose tasks are the same
abbrev pub invariant-loop-index : goal.invariant-loop-index
invariant-loop-index l = record {
  moves : Moves l.fn.self.master l.self.master;
  rest : l.self ≡ record l.fn.self { master = l.self.master; cluster = l.self.cluster };
  tasks : l.self.cluster.tasks ≡ l.fn.self.cluster.tasks;
  made : MakesAll l.made.items l.fn.self.master l.self.master;
}
