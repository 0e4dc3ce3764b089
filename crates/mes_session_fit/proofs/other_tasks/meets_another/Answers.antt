use Rattle.std.proofs.Common.{◌+◌, ◌-◌, drop, take}
use Rattle.mes_session_fit.specs.Keys.{key_of}
use Rattle.mes_session_fit.specs.Fits.{asked}
use Rattle.mes_session_fit.specs.Launched.{launched, place}
use Rattle.mes_session_fit.proofs.BatchLemmas.{following-task, meets-near}
use Rattle.mes_session_fit.proofs.other_tasks.meets_another.Goals as goal

pub returns-in-Ranges : goal.returns-in-Ranges
returns-in-Ranges g c =
    let of = g.L.TaskGroup.tasks in
    let os = c.args.launches.now in
    let tasks = c.tasks-tasks.result.now in
    let task = c.args.task in
    let end = c.args.batch.end in
    meets-near c.args.resource.now.value c.in-Ranges.field-0 (key_of c.args.resource.now) (asked (take (end - (task + 1)) (drop (task + 1) tasks)))
    (asked (drop (place of os c.args.at end) (launched of os))) _ c.tasks_meet.result c.in-Ranges.is
    (following-task of os c.args.at c.index-launches-at.result c.requires.is_index.group_within c.index-launches-at.is tasks c.tasks-tasks.ensures task end c.requires.inside
    (c.requires.is.within c.index-launches-at.result c.index-launches-at.is))
    (c.requires.free c.if-batch.true) c.tasks_meet.ensures
