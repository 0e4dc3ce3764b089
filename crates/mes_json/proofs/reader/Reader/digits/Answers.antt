use Rattle.std.proofs.Common.{sym, ◌∙◌}
use Rattle.std.proofs.lemmas.Result.{err_from_is_err_and}
use Rattle.mes_json.specs.Reader.{state_view}
use Rattle.mes_json.proofs.TokenLemmas.{number_grows, number_ends, number_gives, number_precedes}
use Rattle.mes_json.proofs.reader.Reader.digits.Goals as goal

pub after-requires-clause-fits : goal.after-requires-clause-fits
after-requires-clause-fits c =
    (number_ends c.args.self.now c.end_number.new.self c.args.part c.requires.fits c.requires.reached c.requires.at (sym c.may_end.ensures ∙ c.if-not-may_end.false)
    c.in_ok-end_number-in-None.ensures.ok).fits

pub returns-in-Some-clause-gives : goal.returns-in-Some-clause-gives
returns-in-Some-clause-gives c =
    (number_grows c.args.self.now c.keep.new.self c.keep.result c.args.byte c.args.part c.in-Some.next c.requires.fits c.requires.at
    (sym c.next_state.ensures.next ∙ c.in-Some.is) c.keep.ensures.ok c.keep.ensures.err).0

pub returns-in-Some-clause-fits : goal.returns-in-Some-clause-fits
returns-in-Some-clause-fits c =
    (number_grows c.args.self.now c.keep.new.self c.keep.result c.args.byte c.args.part c.in-Some.next c.requires.fits c.requires.at
    (sym c.next_state.ensures.next ∙ c.in-Some.is) c.keep.ensures.ok c.keep.ensures.err).1

pub returns-in_ok-end_number-in-None-clause-gives : goal.returns-in_ok-end_number-in-None-clause-gives
returns-in_ok-end_number-in-None-clause-gives c =
    number_gives c.args.self.now c.end_number.new.self c.after.result c.args.byte c.args.part (state_view c.after.new.self)
    (number_ends c.args.self.now c.end_number.new.self c.args.part c.requires.fits c.requires.reached c.requires.at (sym c.may_end.ensures ∙ c.if-not-may_end.false)
    c.in_ok-end_number-in-None.ensures.ok)
    (sym c.next_state.ensures.next ∙ c.in-None.is) (sym c.may_end.ensures ∙ c.if-not-may_end.false) c.after.ensures.gives

pub returns-in_err-end_number-in-None-clause-gives : goal.returns-in_err-end_number-in-None-clause-gives
returns-in_err-end_number-in-None-clause-gives c =
    let p = err_from_is_err_and c.from_residual.result c.from_residual.ensures.1 in
    let read = number_precedes c.args.self.now c.args.byte c.args.part c.may_follow.result c.requires.fits c.requires.at
    (sym c.next_state.ensures.next ∙ c.in-None.is) (sym c.may_end.ensures ∙ c.if-not-may_end.false) c.may_follow.ensures c.if-not-may_follow.false in
    rw (p.1, p.2) read
