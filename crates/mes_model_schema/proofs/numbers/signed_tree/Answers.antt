use Rattle.std.proofs.Common.{sym, ◌∙◌, ap, subst}
use Rattle.std.proofs.Math.Facts.{to_z-of_z}
use Rattle.std.specs.Fmt.{signed_decimal}
use Rattle.std.specs.Int.{w32}
use Rattle.mes_fixed.specs.Number.{IsNumber}
use Rattle.mes_model_schema.proofs.NumberPlaces.{signed32_is_number}
use Rattle.mes_model_schema.proofs.numbers.signed_tree.Goals as goal

pub number_tree-requires : goal.number_tree-requires
number_tree-requires c =
    subst IsNumber (sym (c.format.ensures.text ∙ ap signed_decimal (to_z-of_z {w = w32} c.ranges.value))) (signed32_is_number c.args.value c.ranges.value)
