use Rattle.std.proofs.Common.{arith}
use Rattle.mes_fixed.proofs.Texts.{fraction_turn}
use Rattle.mes_fixed.proofs.fixed_point.push_fraction.Goals as goal

pub loop-place-preserved : goal.loop-place-preserved
loop-place-preserved c =
    fraction_turn c.loop-place.place c.loop-place.rest c.pow-scale.result c.from.result c.loop-place.text.bytes c.push.new.self.bytes _
    (omega arith) c.loop-place.invariant.0 c.loop-place.invariant.1 c.loop-place.invariant.2 c.pow-scale.ensures c.from.ensures c.push.ensures.ascii c.if-rest-eq0.false
