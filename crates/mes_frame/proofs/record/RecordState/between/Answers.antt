use Rattle.mes_frame.proofs.Records.{begun_in_data}
use Rattle.mes_frame.proofs.record.RecordState.between.Goals as goal

pub returns-in-Data-clause-represents : goal.returns-in-Data-clause-represents
returns-in-Data-clause-represents c = λ x r represents. (λ is. cc, λ empty. absurd (begun_in_data _ x r _ c.in-Data.is represents empty))
