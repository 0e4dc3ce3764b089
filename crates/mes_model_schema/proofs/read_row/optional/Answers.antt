use Rattle.std.proofs.Common.{Some}
use Rattle.std.specs.Prelude.{Ok}
use Rattle.mes_model_schema.proofs.RowLemmas.{looked_value, optional_at, gives_bound}
use Rattle.mes_model_schema.proofs.read_row.optional.Goals as goal

pub returns-in_err-value-in-Present : goal.returns-in_err-value-in-Present
returns-in_err-value-in-Present g c = λ ms found.
    let value = looked_value c.args.found.now c.args.path.now c.args.name.now ms c.unique_value.result c.in-Present.value c.unique_value.ensures c.in-Present.is found in
    rw (optional_at g.T.Part.kind c.args.path.now c.with.result c.args.name.now ms value.0 c.with.ensures value.1)
    (gives_bound (g.T.Part.kind.read c.with.result value.0) (λ v. Ok (Some v)) _ c.from_residual.result
    c.from_residual.ensures.1 (c.in_err-value-in-Present.ensures value.0 value.2))

pub returns-in_ok-value-in-Present : goal.returns-in_ok-value-in-Present
returns-in_ok-value-in-Present g c = λ ms found.
    let value = looked_value c.args.found.now c.args.path.now c.args.name.now ms c.unique_value.result c.in-Present.value c.unique_value.ensures c.in-Present.is found in
    rw (optional_at g.T.Part.kind c.args.path.now c.with.result c.args.name.now ms value.0 c.with.ensures value.1, c.in_ok-value-in-Present.ensures value.0 value.2)
