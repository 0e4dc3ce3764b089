use Rattle.mes_model_schema.proofs.RowLemmas.{looked_value, repeated_at}
use Rattle.mes_model_schema.proofs.read_row.repeated.Goals as goal

pub returns-in-Present : goal.returns-in-Present
returns-in-Present g c = λ ms found.
    let value = looked_value c.args.found.now c.args.path.now c.args.name.now ms c.unique_value.result c.in-Present.value c.unique_value.ensures c.in-Present.is found in
    rw (repeated_at g.T.Part.kind c.args.path.now c.with.result c.args.name.now ms value.0 c.with.ensures value.1) (c.read_items.ensures value.0 value.2)
