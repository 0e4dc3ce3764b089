use Rattle.mes_msg.specs.Events.{event}
use Rattle.mes_stream.proofs.MessageLemmas.{one_reason}
use Rattle.mes_stream.proofs.OutcomeLaw.{one_plain_answer}
use Rattle.mes_stream.proofs.theorems.one_plain_outcome.Goals as goal

pub returns : goal.returns
returns c = one_plain_answer (one_reason event c.message_reading_is_unique.ensures.value c.message_reading_is_unique.ensures.why c.message_reading_is_unique.ensures.apart) c.event_reading_is_unique.ensures.one_plain
