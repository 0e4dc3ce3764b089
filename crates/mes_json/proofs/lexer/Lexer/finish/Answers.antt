use Rattle.std.proofs.lemmas.Result.{err_from_is_err_and}
use Rattle.mes_json.proofs.TreeLemmas.{tree_read, tree_only}
use Rattle.mes_json.proofs.lexer.Lexer.finish.Goals as goal

pub returns-in_err-tape-clause-only : goal.returns-in_err-tape-clause-only
returns-in_err-tape-clause-only c =
    let p = err_from_is_err_and c.from_residual.result c.from_residual.ensures.1 in
    rw (p.1, p.2) c.in_err-tape.ensures.only

pub returns-clause-read : goal.returns-clause-read
returns-clause-read c p h = tree_read p c.in_ok-tape.tape c.root.result c.in_ok-to_json.field-0 (c.in_ok-tape.ensures.read p h) c.root.ensures c.in_ok-to_json.ensures

pub returns-clause-only : goal.returns-clause-only
returns-clause-only c p h t text =
    tree_only c.in_ok-tape.tape c.root.result c.in_ok-to_json.field-0 t (c.in_ok-tape.ensures.only p h t text) c.root.ensures c.in_ok-to_json.ensures

pub returns-in_err-to_json-clause-reported : goal.returns-in_err-to_json-clause-reported
returns-in_err-to_json-clause-reported c p h no_text memory =
    let text = c.in_ok-tape.ensures.read p h in
    absurd (no_text text.0 text.1)
