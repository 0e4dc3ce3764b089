use Rattle.mes_model_schema.specs.Leaves.{text_of}
use Rattle.mes_model_schema.proofs.PartLemmas.{gives_told}
use Rattle.mes_model_schema.proofs.RowLemmas.{refused_bound}
use Rattle.mes_model_task.specs.TaskStates.{states}
use Rattle.mes_model_task.proofs.StateLemmas.{states_given, states_unknown}
use Rattle.mes_model_task.proofs.task_state.TaskStatePart.read_from.Goals as goal

pub returns-in_err-name : goal.returns-in_err-name
unfolding states
returns-in_err-name c = λ t b. refused_bound (text_of c.args.path.now t) _ _ c.from_residual.result c.from_residual.ensures.1 (c.in_err-name.ensures t b)

pub returns-in-Some : goal.returns-in-Some
returns-in-Some c = λ t b. states_given _ t _ _ (c.in_ok-name.ensures t b) c.in-Some.ensures.some

pub returns-in-None : goal.returns-in-None
returns-in-None c = λ t b. gives_told _ _ _ c.refusal_at.ensures (states_unknown _ t _ (c.in_ok-name.ensures t b) c.in-None.ensures.none)
