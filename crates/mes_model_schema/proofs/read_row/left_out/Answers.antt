use Rattle.std.proofs.Common.{refl}
use Rattle.mes_model_schema.specs.Fields.{below}
use Rattle.mes_model_schema.specs.Leaves.{left_out}
use Rattle.mes_model_schema.proofs.PartLemmas.{refuses_told}
use Rattle.mes_model_schema.proofs.RowLemmas.{looked_value, optional_at}
use Rattle.mes_model_schema.proofs.read_row.left_out.Goals as goal

pub returns-in-Present : goal.returns-in-Present
unfolding left_out
returns-in-Present c = λ ms found.
    let value = looked_value c.args.found.now c.args.path.now c.args.name.now ms c.unique_value.result c.in-Present.field-0 c.unique_value.ensures c.in-Present.is found in
    refuses_told _ _ _ c.row_refusal.ensures (optional_at left_out c.args.path.now (below c.args.path.now c.args.name.now) c.args.name.now ms value.0 refl value.1)
