use Rattle.std.proofs.Common.{◌≡◌, inr, ap, arith}
use Rattle.mes_session_fit.specs.Keys.{type_of, scalar}
use Rattle.mes_session_fit.specs.Fits.{asked}
use Rattle.mes_session_fit.specs.Launched.{launched}
use Rattle.mes_session_fit.proofs.FitsLemmas.{no-amount}
use Rattle.mes_session_fit.proofs.fit_check.exceeds_first_time.Goals as goal

pub returns-in-Ranges-clause-no : goal.returns-in-Ranges-clause-no
returns-in-Ranges-clause-no g c = λ _.
    let other : type_of c.args.resource.now.value ≡ scalar → ⊥ = λ e. (let is = ap type_of c.in-Ranges.is in cc) in
    inr (omega (arith, no-amount c.args.resource.now other (asked (launched g.L.TaskGroup.tasks c.args.launches.now))))

pub returns-in-Set-clause-no : goal.returns-in-Set-clause-no
returns-in-Set-clause-no g c = λ _.
    let other : type_of c.args.resource.now.value ≡ scalar → ⊥ = λ e. (let is = ap type_of c.in-Set.is in cc) in
    inr (omega (arith, no-amount c.args.resource.now other (asked (launched g.L.TaskGroup.tasks c.args.launches.now))))
