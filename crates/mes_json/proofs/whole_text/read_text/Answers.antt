use Rattle.std.proofs.lemmas.Result.{err_from_is_err_and}
use Rattle.mes_json.proofs.ReadLemmas.{text_first}
use Rattle.mes_json.proofs.TreeLemmas.{tree_read, tree_only}
use Rattle.mes_json.proofs.whole_text.read_text.Goals as goal

pub returns-in_err-tape-clause-only : goal.returns-in_err-tape-clause-only
returns-in_err-tape-clause-only c =
    let p = err_from_is_err_and c.from_residual.result c.from_residual.ensures.1 in
    rw (p.1, p.2) c.in_err-tape.ensures.only

pub returns-clause-read : goal.returns-clause-read
returns-clause-read c = tree_read c.args.bytes.now c.in_ok-tape.tape c.root.result c.in_ok-to_json.field-0 c.in_ok-tape.ensures.read c.root.ensures c.in_ok-to_json.ensures

pub returns-clause-only : goal.returns-clause-only
returns-clause-only c t text = tree_only c.in_ok-tape.tape c.root.result c.in_ok-to_json.field-0 t (c.in_ok-tape.ensures.only t text) c.root.ensures c.in_ok-to_json.ensures

pub returns-in_err-to_json-clause-fault : goal.returns-in_err-to_json-clause-fault
returns-in_err-to_json-clause-fault c =
    let p = err_from_is_err_and c.from_residual-in_err-to_json.result c.from_residual-in_err-to_json.ensures.1 in
    let text = c.in_ok-tape.ensures.read in
    rw (p.1, p.2) (text_first c.args.bytes.now text.0 text.1)
