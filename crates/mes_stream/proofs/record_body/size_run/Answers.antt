use Rattle.std.proofs.Common.{◌++◌, take, refl, ◌∙◌, arith}
use Rattle.mes_stream.proofs.SizeLemmas.{size_first, size_next}
use Rattle.mes_stream.proofs.record_body.size_run.Goals as goal

pub loop-count-init : goal.loop-count-init
loop-count-init c = (omega arith, refl, λ x r s. size_first c.args.records.now x r c.args.run.now s)

pub loop-count-preserved : goal.loop-count-preserved
loop-count-preserved c = (
  omega (arith, c.loop-count-test.true),
  c.step.ensures.limit ∙ c.loop-count.invariant.1,
  λ x r s.
      let before = c.loop-count.invariant.2 x r s in
      size_next c.loop-count.records c.step.new.self x r c.args.run.now c.loop-count.count c.loop-count-test.true c.step.ensures.limit
      (c.in-Quiet.ensures.steps (x ++ take c.loop-count.count c.args.run.now) r before.0).0 before,
)
