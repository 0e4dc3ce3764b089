use Rattle.std.proofs.Common.{◌+◌, subst, drop, List}
use Rattle.std.proofs.lemmas.List.{take_rest}
use Rattle.mes_model.specs.TaskInfo.{TaskInfo}
use Rattle.mes_session_fit.specs.Keys.{key_of}
use Rattle.mes_session_fit.specs.Fits.{piece_in, piece_of, has_piece, asked}
use Rattle.mes_session_fit.specs.Launched.{launched, place}
use Rattle.mes_session_fit.specs.Looking.{Meets}
use Rattle.mes_session_fit.proofs.BreachLemmas.{following-parts, meets-first, meets-second}
use Rattle.mes_session_fit.proofs.other_tasks.overlaps_later.Goals as goal

pub returns-then-tasks_meet : goal.returns-then-tasks_meet
returns-then-tasks_meet g c =
    let k = key_of c.args.resource.now in
    let os = c.args.launches.now in
    let tasks = c.tasks-tasks.result.now in
    meets-first (λ p. piece_in p c.args.resource.now.value) (λ p. has_piece k p (asked (drop (c.args.task + 1) tasks))) (λ p. has_piece k p (asked (launched g.L.TaskGroup.tasks (drop (c.args.at + 1) os))))
    (λ p. has_piece k p (asked (drop (place g.L.TaskGroup.tasks os c.args.at c.args.task + 1) (launched g.L.TaskGroup.tasks os))))
    (λ p. following-parts g.L.TaskGroup.tasks os c.args.at c.index-launches-at.result c.requires.group_within c.index-launches-at.is c.args.task tasks c.tasks-tasks.ensures
    (c.requires.task_within c.index-launches-at.result c.index-launches-at.is) (piece_of k p))
    c.tasks_meet.result c.if-tasks_meet.true
    (subst (λ (ts : List TaskInfo). Meets (λ p. piece_in p c.args.resource.now.value) (λ p. has_piece k p (asked ts)) c.tasks_meet.result) (take_rest tasks (c.args.task + 1)) c.tasks_meet.ensures)

pub returns-else-tasks_meet : goal.returns-else-tasks_meet
returns-else-tasks_meet g c =
    let k = key_of c.args.resource.now in
    let os = c.args.launches.now in
    let tasks = c.tasks-tasks.result.now in
    meets-second (λ p. piece_in p c.args.resource.now.value) (λ p. has_piece k p (asked (drop (c.args.task + 1) tasks))) (λ p. has_piece k p (asked (launched g.L.TaskGroup.tasks (drop (c.args.at + 1) os))))
    (λ p. has_piece k p (asked (drop (place g.L.TaskGroup.tasks os c.args.at c.args.task + 1) (launched g.L.TaskGroup.tasks os))))
    (λ p. following-parts g.L.TaskGroup.tasks os c.args.at c.index-launches-at.result c.requires.group_within c.index-launches-at.is c.args.task tasks c.tasks-tasks.ensures
    (c.requires.task_within c.index-launches-at.result c.index-launches-at.is) (piece_of k p))
    c.tasks_meet.result c.if-tasks_meet.false
    (subst (λ (ts : List TaskInfo). Meets (λ p. piece_in p c.args.resource.now.value) (λ p. has_piece k p (asked ts)) c.tasks_meet.result) (take_rest tasks (c.args.task + 1)) c.tasks_meet.ensures)
    c.groups_meet.result
    (subst (λ ps. Meets (λ p. piece_in p c.args.resource.now.value) (λ p. has_piece k p (asked (launched g.L.TaskGroup.tasks ps))) c.groups_meet.result) (take_rest os (c.args.at + 1)) c.groups_meet.ensures)
