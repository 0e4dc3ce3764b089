use Rattle.std.proofs.Common.{refl}
use Rattle.mes_double_faults.proofs.NumberLemmas.{pair_no_first, pair_no_second, pair_unsplit}
use Rattle.mes_double_faults.proofs.number.pair.Goals as goal

pub returns-in_err-first-clause-none : goal.returns-in_err-first-clause-none
returns-in_err-first-clause-none c = λ _. pair_unsplit c.args.text.now c.args.least c.args.greatest c.in_err-first.ensures.cases

pub returns-in_err-place-clause-none : goal.returns-in_err-place-clause-none
returns-in_err-place-clause-none c =
    λ _. pair_no_first c.args.text.now c.in_ok-first.first c.in_ok-first.second c.in_ok-first.ensures.cases c.args.least c.args.greatest (c.in_err-place.ensures.none refl)

pub returns-in_err-amount-clause-none : goal.returns-in_err-amount-clause-none
returns-in_err-amount-clause-none c =
    λ _. pair_no_second c.args.text.now c.in_ok-first.first c.in_ok-first.second c.in_ok-first.ensures.cases c.args.least c.args.greatest (c.in_err-amount.ensures.none refl)
