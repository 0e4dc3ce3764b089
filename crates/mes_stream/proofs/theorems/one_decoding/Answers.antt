use Rattle.mes_stream.proofs.PieceLaw.{one_decoding}
use Rattle.mes_stream.proofs.theorems.one_decoding.Goals as goal

pub returns : goal.returns
returns c = one_decoding c.event_reading_is_unique.ensures.one_stream
