use Rattle.mes_stream.proofs.LineOutcome.{one_lines_answer}
use Rattle.mes_stream.proofs.theorems.one_line_outcome.Goals as goal

pub returns : goal.returns
returns c = one_lines_answer c.event_reading_is_unique.ensures.one_lines
