use Rattle.std.proofs.Common.{◌+◌, ap, refl, arith}
use Rattle.std.proofs.lemmas.List.{take_rest}
use Rattle.mes_session_fit.specs.Keys.{key_of}
use Rattle.mes_session_fit.specs.Fits.{amount, asked}
use Rattle.mes_session_fit.specs.Launched.{launched}
use Rattle.mes_session_fit.proofs.PourLemmas.{from-start, amount-from, taken-all}
use Rattle.mes_session_fit.proofs.supply.exceeds.Goals as goal

pub returns-then-not-take_tasks : goal.returns-then-not-take_tasks
returns-then-not-take_tasks g c =
    let k = key_of c.args.key.now in
    let of = g.L.TaskGroup.tasks in
    let os = c.args.launches.now in
    let tasks = c.tasks-tasks.result.now in
    let within = c.requires.is_index.task_within c.index-launches-at.result c.index-launches-at.is in
    let all = amount-from of os c.args.at c.index-launches-at.result c.requires.is_index.group_within c.index-launches-at.is c.args.task tasks c.tasks-tasks.ensures (omega (arith, within)) k c.requires.first in (
      λ _. omega (
        arith,
        all,
        ap (amount k) (from-start (g.O.OfferList.offers c.args.offers.now)),
        ap (λ ts. amount k (asked ts)) (take_rest tasks c.args.task),
        c.take_tasks.ensures.short c.if-not-take_tasks.true,
      ),
      λ _. refl,
    )

pub returns : goal.returns
returns g c =
    let k = key_of c.args.key.now in
    let of = g.L.TaskGroup.tasks in
    let os = c.args.launches.now in
    let tasks = c.tasks-tasks.result.now in
    let within = c.requires.is_index.task_within c.index-launches-at.result c.index-launches-at.is in
    let all = amount-from of os c.args.at c.index-launches-at.result c.requires.is_index.group_within c.index-launches-at.is c.args.task tasks c.tasks-tasks.ensures (omega (arith, within)) k c.requires.first in
    let start = ap (amount k) (from-start (g.O.OfferList.offers c.args.offers.now)) in
    let own = ap (λ ts. amount k (asked ts)) (take_rest tasks c.args.task) in
    let later = ap (λ gs. amount k (asked (launched of gs))) (take_rest os (c.args.at + 1)) in
    let taken = c.take_tasks.ensures.enough c.if-not-take_tasks.false in
    taken-all c.take_groups.result _ _ (λ e. omega (arith, all, start, own, later, taken, c.take_groups.ensures.enough e)) (λ e. omega (arith, all, start, own, later, taken, c.take_groups.ensures.short e))
