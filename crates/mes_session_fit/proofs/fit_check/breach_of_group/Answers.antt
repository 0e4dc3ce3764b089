use Rattle.std.proofs.Common.{◌≡◌, ◌+◌, List, length, get_or, ap, sym, ◌∙◌, arith}
use Rattle.mes_model.specs.TaskInfo.{TaskInfo}
use Rattle.mes_session_fit.specs.Launched.{launched, place}
use Rattle.mes_session_fit.proofs.BreachLemmas.{none-at, place-next}
use Rattle.mes_session_fit.proofs.LaunchedLemmas.{get-place, next-place}
use Rattle.mes_session_fit.proofs.ListLemmas.{get-at}
use Rattle.mes_session_fit.proofs.fit_check.breach_of_group.Goals as goal

pub breach_of_task-requires-clause-is : goal.breach_of_task-requires-clause-is
breach_of_task-requires-clause-is g c =
    get-place g.L.TaskGroup.tasks c.args.launches.now c.args.at c.index-launches-at.result c.requires.within c.index-launches-at.is c.loop-index.index c.index-tasks-index.result
    (omega (arith, c.loop-index-test.true, ap (length {A = TaskInfo}) c.tasks-tasks.ensures))
    (c.index-tasks-index.is ∙ ap (λ (ts : List TaskInfo). get_or ts c.loop-index.index c.index-tasks-index.result) c.tasks-tasks.ensures)

pub breach_of_task-requires-clause-free : goal.breach_of_task-requires-clause-free
breach_of_task-requires-clause-free g c = λ apart.
    c.batch_of-batch.ensures.is.apart apart c.index-launches-at.result c.index-launches-at.is c.loop-index.index c.index-tasks-index.result c.batch_of-batch.ensures.begun c.batch_of-batch.ensures.inside
    (get-at (g.L.TaskGroup.tasks c.index-launches-at.result) c.loop-index.index c.index-tasks-index.result (omega (arith, c.loop-index-test.true, ap (length {A = TaskInfo}) c.tasks-tasks.ensures))
    (c.index-tasks-index.is ∙ ap (λ (ts : List TaskInfo). get_or ts c.loop-index.index c.index-tasks-index.result) c.tasks-tasks.ensures))

pub loop-index-preserved : goal.loop-index-preserved
loop-index-preserved g c =
    let of = g.L.TaskGroup.tasks in
    let os = c.args.launches.now in
    record {
      none = none-at (g.O.OfferList.offers c.args.offers.now) (launched of os) (place of os c.args.at c.loop-index.index + 1) (place of os c.args.at (c.loop-index.index + 1)) (place-next of os c.args.at c.loop-index.index) c.in_default.ensures.none;
      begun = omega (arith, c.batch_of-batch.ensures.begun);
      is = c.batch_of-batch.ensures.is;
    }

pub returns-clause-none : goal.returns-clause-none
returns-clause-none g c =
    let of = g.L.TaskGroup.tasks in
    let os = c.args.launches.now in
    let all : place of os c.args.at c.loop-index.index ≡ place of os (c.args.at + 1) 0 =
    ap (place of os c.args.at) (omega arith)
    ∙ ap (λ (ts : List TaskInfo). place of os c.args.at (length ts)) c.tasks-tasks.ensures
    ∙ sym (next-place of os c.args.at c.index-launches-at.result c.requires.within c.index-launches-at.is) in
    none-at (g.O.OfferList.offers c.args.offers.now) (launched of os) (place of os c.args.at c.loop-index.index) (place of os (c.args.at + 1) 0) all c.loop-index.invariant.none
