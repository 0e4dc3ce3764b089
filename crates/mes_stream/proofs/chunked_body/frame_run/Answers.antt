use Rattle.std.proofs.Common.{◌++◌, take, refl, arith}
use Rattle.mes_frame.proofs.ChunkFraming.{framing_first, framing_next}
use Rattle.mes_stream.proofs.chunked_body.frame_run.Goals as goal

pub loop-count-init : goal.loop-count-init
loop-count-init c = (omega arith, λ none. refl, λ w body s. framing_first c.args.chunks.now w body c.args.rest.now s)

pub loop-count-preserved : goal.loop-count-preserved
loop-count-preserved c = (
  omega (arith, c.loop-count-test.true),
  λ none. absurd (omega (arith, none)),
  λ w body s.
      let before = c.loop-count.invariant.2 w body s in
      framing_next c.loop-count.chunks c.step.new.self w body c.args.rest.now c.loop-count.count c.loop-count-test.true
      (c.in-Quiet.ensures.steps (w ++ take c.loop-count.count c.args.rest.now) body before.0) before,
)
