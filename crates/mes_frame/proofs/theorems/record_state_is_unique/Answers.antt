use Rattle.mes_frame.proofs.OneState.{one_state}
use Rattle.mes_frame.proofs.Records.{begun_of, no_fault_of}
use Rattle.mes_frame.proofs.theorems.record_state_is_unique.Goals as goal

pub returns-clause-begun : goal.returns-clause-begun
returns-clause-begun c = begun_of

pub returns-clause-one : goal.returns-clause-one
returns-clause-one c = one_state

pub returns-clause-sound : goal.returns-clause-sound
returns-clause-sound c = no_fault_of
