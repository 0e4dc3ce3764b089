use Rattle.mes_model_schema.proofs.AppendLemmas.{next_item}
use Rattle.mes_model_schema.proofs.ListLemmas.{returns_next}
use Rattle.mes_model_schema.proofs.append.append_items.Goals as goal

pub loop-value-preserved : goal.loop-value-preserved
loop-value-preserved g c = (
  next_item g.T.Part.kind.tree _ c.args.values.now c.loop-value.value-index c.value-item.result _ _ _ _ _ _ c.loop-value-test.true c.value-item.is
      c.loop-value.invariant.0 c.in_ok-push.ensures.items c.in_ok-deep.ensures.text c.deeper-deepest.ensures,
  returns_next g.T.Part.kind c.args.values.now c.loop-value.value-index c.value-item.result c.loop-value-test.true c.value-item.is c.loop-value.invariant.1
      c.in_ok-deep.ensures.back,
)
