use Rattle.std.proofs.Common.{◌∙◌, sym}
use Rattle.mes_session_state.proofs.DuplicateLemmas.{twice-in}
use Rattle.mes_session_state.proofs.duplicates.task_is_duplicated.Goals as goal

pub returns-then-is_repeated : goal.returns-then-is_repeated
returns-then-is_repeated g c =
    sym (twice-in g.L.TaskGroup.tasks c.args.launches.now c.loop-at.at c.index-launches-at.result c.loop-at-test.true c.index-launches-at.is c.tasks.result.now c.tasks.ensures
    (sym c.is_repeated.ensures ∙ c.if-is_repeated.true))
