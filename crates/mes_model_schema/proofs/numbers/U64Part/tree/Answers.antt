use Rattle.std.proofs.Common.{sym, subst}
use Rattle.mes_fixed.specs.Number.{IsNumber}
use Rattle.mes_model_schema.proofs.NumberPlaces.{whole_is_number}
use Rattle.mes_model_schema.proofs.numbers.U64Part.tree.Goals as goal

pub number_tree-requires : goal.number_tree-requires
number_tree-requires c = subst IsNumber (sym c.format.ensures.text) (whole_is_number c.args.self.now c.type_inv.number.fits)
