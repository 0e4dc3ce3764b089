use Rattle.std.proofs.Common.{refl, arith}
use Rattle.mes_model_schema.proofs.RowLemmas.{gives_bound}
use Rattle.mes_model_schema.proofs.RowListLemmas.{choice_found}
use Rattle.mes_model_schema.proofs.typed.TypedRowList.read_rows.Goals as goal

pub returns-in_err-value : goal.returns-in_err-value
returns-in_err-value g c = λ ms finds.
    let each = choice_found c.args.first g.C.Choice.names c.args.names.now c.args.found.now ms _ c.requires.fits (omega (arith, c.requires.rows, g.met.C.Choice.counted)) finds in
    gives_bound _ _ _ c.from_residual.result c.from_residual.ensures.1 (c.in_err-value.ensures ms each)

pub returns-in_err-rest : goal.returns-in_err-rest
returns-in_err-rest g c = λ ms finds.
    let each = choice_found c.args.first g.C.Choice.names c.args.names.now c.args.found.now ms _ c.requires.fits (omega (arith, c.requires.rows, g.met.C.Choice.counted)) finds in
    rw (c.in_ok-value.ensures ms each, ← c.COUNT.ensures)
    (gives_bound _ _ _ c.from_residual-in_err-rest.result c.from_residual-in_err-rest.ensures.1 (c.in_err-rest.ensures ms finds))

pub returns : goal.returns
returns g c = λ ms finds.
    let each = choice_found c.args.first g.C.Choice.names c.args.names.now c.args.found.now ms _ c.requires.fits (omega (arith, c.requires.rows, g.met.C.Choice.counted)) finds in
    rw (c.in_ok-value.ensures ms each, ← c.COUNT.ensures, c.in_ok-rest.ensures ms finds) refl
