use Rattle.mes_model_task.proofs.StateFaults.{state_is_broken}
use Rattle.mes_model_task.proofs.first_fault.state_breaks.Goals as goal

pub returns : goal.returns
returns c = state_is_broken
