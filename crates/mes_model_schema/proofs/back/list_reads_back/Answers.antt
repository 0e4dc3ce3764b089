use Rattle.mes_model_schema.proofs.ListLemmas.{returns_next}
use Rattle.mes_model_schema.proofs.back.list_reads_back.Goals as goal

pub loop-value-preserved : goal.loop-value-preserved
loop-value-preserved g c =
    returns_next g.T.Part.kind c.as_slice-value-items.result.now c.loop-value.value-index c.value-item.result c.loop-value-test.true c.value-item.is
    c.loop-value.invariant c.reads_back.ensures
