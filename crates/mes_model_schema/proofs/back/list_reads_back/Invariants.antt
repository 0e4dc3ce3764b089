use Rattle.std.proofs.Common.{take}
use Rattle.mes_model_schema.specs.Rows.{ReturnsEach}
use Rattle.mes_model_schema.proofs.back.list_reads_back.Given as goal

abbrev pub invariant-loop-value : goal.invariant-loop-value
invariant-loop-value g l = ReturnsEach g.T.Part.kind (take l.value-index l.value-items)
