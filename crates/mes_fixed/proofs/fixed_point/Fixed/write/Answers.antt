use Rattle.std.proofs.Common.{lit<}
use Rattle.mes_fixed.proofs.Texts.{text_is, text_room, written_back, pow_fits, pow_above, rest_below_power}
use Rattle.mes_fixed.proofs.fixed_point.Fixed.write.Goals as goal

pub pow-scale-requires : goal.pow-scale-requires
pow-scale-requires g c = pow_fits g.row.P c.self.invariant.2

pub nonzero_div-units : goal.nonzero_div-units
nonzero_div-units g c = pow_above g.row.P c.pow-scale.result c.pow-scale.ensures

pub nonzero_rem-units : goal.nonzero_rem-units
nonzero_rem-units g c = pow_above g.row.P c.pow-scale.result c.pow-scale.ensures

pub push_fraction-requires-clause-rest : goal.push_fraction-requires-clause-rest
push_fraction-requires-clause-rest g c = rest_below_power g.row.P c.pow-scale.result c.self.inside.units c.pow-scale.ensures

pub push_fraction-requires-clause-room : goal.push_fraction-requires-clause-room
push_fraction-requires-clause-room g c =
    text_room g.row.P c.self.inside.units c.pow-scale.result _ _ _ _ c.self.invariant.1 c.self.invariant.2 c.self.invariant.0
    c.pow-scale.ensures c.clear.ensures c.push_str.ensures.bytes c.format.ensures.text (c.push.ensures.ascii (lit< tt))

pub returns-clause-back : goal.returns-clause-back
returns-clause-back g c =
    written_back g.row.P c.self.inside.units c.args.self.now c.push_fraction.new.text.bytes c.self.invariant.1 c.self.invariant.2 c.self.invariant.0 c.self.view_is
    (text_is g.row.P c.self.inside.units c.pow-scale.result _ _ _ _ _ c.pow-scale.ensures c.clear.ensures c.push_str.ensures.bytes c.format.ensures.text (c.push.ensures.ascii (lit< tt)) c.push_fraction.ensures)
