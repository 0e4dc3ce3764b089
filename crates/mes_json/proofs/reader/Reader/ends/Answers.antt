use Rattle.std.proofs.Common.{◌==◌, List, length, true, Option, ap, subst, sym, ◌∙◌}
use Rattle.std.proofs.lemmas.Result.{err_from_is_err_and}
use Rattle.mes_json.specs.Tree.{Tree}
use Rattle.mes_json.specs.Reader.{EndsWhole}
use Rattle.mes_json.specs.declared.nesting.Open.{Open}
use Rattle.mes_json.proofs.TokenLemmas.{number_ends, number_finished}
use Rattle.mes_json.proofs.WholeLemmas.{ends_behind, number_is_whole}
use Rattle.mes_json.proofs.reader.Reader.ends.Goals as goal

pub returns-in_err-end_number-in-Digits-clause-err : goal.returns-in_err-end_number-in-Digits-clause-err
returns-in_err-end_number-in-Digits-clause-err c =
    let p = err_from_is_err_and c.from_residual.result c.from_residual.ensures.1 in
    rw p.1 (number_is_whole c.args.self.now c.in-Digits.part c.requires.fits c.in-Digits.is (sym c.may_end.ensures ∙ c.if-may_end.true)
    (sym c.if-is_empty.true ∙ c.is_empty-then-may_end.ensures))

pub returns-in_ok-end_number-in-Digits-clause-ok : goal.returns-in_ok-end_number-in-Digits-clause-ok
returns-in_ok-end_number-in-Digits-clause-ok c =
    let final = sym c.may_end.ensures ∙ c.if-may_end.true in
    let puts = c.in_ok-end_number-in-Digits.ensures.ok in
    let h = number_ends c.args.self.now c.end_number.new.self c.in-Digits.part c.requires.fits c.requires.reached c.in-Digits.is final puts in
    subst (λ (t : Option Tree). EndsWhole true t c.end_number.new.self)
    (number_finished c.args.self.now c.end_number.new.self c.in-Digits.part h final)
    (ends_behind c.end_number.new.self true h.fits puts.at
    (sym c.if-is_empty.true ∙ c.is_empty-then-may_end.ensures ∙ ap (λ (xs : List Open). length xs == 0) (sym puts.nesting_is)))
