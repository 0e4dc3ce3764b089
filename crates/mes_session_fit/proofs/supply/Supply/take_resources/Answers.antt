use Rattle.std.proofs.Common.{arith}
use Rattle.mes_session_fit.specs.Keys.{key_of}
use Rattle.mes_session_fit.specs.Fits.{amount_of}
use Rattle.mes_session_fit.proofs.PourLemmas.{sum-more}
use Rattle.mes_session_fit.proofs.supply.Supply.take_resources.Goals as goal

pub returns-then-not-draw-clause-short : goal.returns-then-not-draw-clause-short
returns-then-not-draw-clause-short g c = λ _.
    omega (
      arith,
      c.draw.ensures.short c.if-not-draw.true,
      c.amount_under.ensures,
      c.loop-resource.invariant,
      sum-more (amount_of (key_of c.args.key.now)) c.args.resources.now c.loop-resource.resource-index c.resource-item.result c.loop-resource-test.true c.resource-item.is,
    )
