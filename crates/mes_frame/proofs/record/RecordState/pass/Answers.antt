use Rattle.mes_frame.proofs.Records.{front_of}
use Rattle.mes_frame.proofs.record.RecordState.pass.Goals as goal

pub returns-then-left-count-clause-fronts : goal.returns-then-left-count-clause-fronts
returns-then-left-count-clause-fronts c = λ x r p k. front_of _ x r p k _ c.requires.remaining

pub returns-clause-fronts : goal.returns-clause-fronts
returns-clause-fronts c = λ x r p k. front_of _ x r p k _ c.requires.remaining
