use Rattle.mes_model_schema.proofs.RowLemmas.{looked_value, required_at}
use Rattle.mes_model_schema.proofs.read_row.required.Goals as goal

pub returns-in-Present : goal.returns-in-Present
returns-in-Present g c = λ ms found.
    let value = looked_value c.args.found.now c.args.path.now c.args.name.now ms c.unique_value.result c.in-Present.value c.unique_value.ensures c.in-Present.is found in
    rw (required_at g.T.Part.kind c.args.path.now c.with.result c.args.name.now ms value.0 c.with.ensures value.1) (c.read_from.ensures value.0 value.2)
