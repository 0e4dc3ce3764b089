use Rattle.std.proofs.Common.{◌<◌, length, arith}
use Rattle.mes_model_schema.proofs.RowLemmas.{gives_bound}
use Rattle.mes_model_schema.proofs.RowListLemmas.{no_text, named_at, short_name, found_at}
use Rattle.mes_model_schema.proofs.row_list.Tuple2RowList.read_rows.Goals as goal

pub read_row-requires-clause-step : goal.read_row-requires-clause-step
read_row-requires-clause-step g c = short_name c.args.names.now no_text c.args.first c.requires.names (omega (arith, c.requires.rows))

pub returns-in_err-head : goal.returns-in_err-head
returns-in_err-head g c = λ ms finds.
    let inside : c.args.first < length c.args.names.now = omega (arith, c.requires.rows) in
    rw (named_at c.args.names.now no_text c.args.first inside)
    (gives_bound _ _ _ c.from_residual.result c.from_residual.ensures.1
    (c.in_err-head.ensures ms (found_at c.args.names.now no_text ms c.args.found.now _ c.args.first c.index-found-first.is inside c.requires.all finds)))

pub returns-in_err-rest : goal.returns-in_err-rest
returns-in_err-rest g c = λ ms finds.
    let inside : c.args.first < length c.args.names.now = omega (arith, c.requires.rows) in
    rw (
      named_at c.args.names.now no_text c.args.first inside,
      c.in_ok-head.ensures ms (found_at c.args.names.now no_text ms c.args.found.now _ c.args.first c.index-found-first.is inside c.requires.all finds),
    ) (gives_bound _ _ _ c.from_residual-in_err-rest.result c.from_residual-in_err-rest.ensures.1 (c.in_err-rest.ensures ms finds))
