use Rattle.mes_stream.proofs.OutcomeLaw.{one_stream_answer}
use Rattle.mes_stream.proofs.theorems.one_stream_outcome.Goals as goal

pub returns : goal.returns
returns c = one_stream_answer c.event_reading_is_unique.ensures.one_stream
