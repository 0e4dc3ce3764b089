use Rattle.std.proofs.Common.{length}
use Rattle.mes_json.specs.Tree.{Tree}
use Rattle.mes_json.specs.Tokens.{BeginsWith}
use Rattle.mes_model_schema.specs.Lists.{list_of}
use Rattle.mes_model_schema.proofs.ReadListLemmas.{ReadsOn}
use Rattle.mes_model_schema.proofs.read_row.read_items.Given as goal

abbrev pub invariant-loop-item : goal.invariant-loop-item
invariant-loop-item g l =
    (t : Tree) → BeginsWith l.element t → ReadsOn g.T.Part.kind ((list_of g.T.Part.kind).read l.path t) l.path l.values.items l.items

abbrev pub decreases-loop-item : goal.decreases-loop-item
decreases-loop-item g l = length l.items
