use Rattle.mes_msg.specs.Events.{event}
use Rattle.mes_stream.proofs.MessageLemmas.{some_reason, one_reason}
use Rattle.mes_stream.proofs.theorems.event_reading_is_unique.Goals as goal

pub returns-clause-some_plain : goal.returns-clause-some_plain
returns-clause-some_plain c = c.plain_reading_is_unique.ensures.some (some_reason event c.message_reading_is_unique.ensures.some) 0

pub returns-clause-one_plain : goal.returns-clause-one_plain
returns-clause-one_plain c =
    c.plain_reading_is_unique.ensures.one (one_reason event c.message_reading_is_unique.ensures.value c.message_reading_is_unique.ensures.why c.message_reading_is_unique.ensures.apart) 0

pub returns-clause-some_lines : goal.returns-clause-some_lines
returns-clause-some_lines c = c.line_reading_is_unique.ensures.some (some_reason event c.message_reading_is_unique.ensures.some) 0

pub returns-clause-one_lines : goal.returns-clause-one_lines
returns-clause-one_lines c =
    c.line_reading_is_unique.ensures.one (one_reason event c.message_reading_is_unique.ensures.value c.message_reading_is_unique.ensures.why c.message_reading_is_unique.ensures.apart) 0

pub returns-clause-some_stream : goal.returns-clause-some_stream
returns-clause-some_stream c = c.stream_reading_is_unique.ensures.some (some_reason event c.message_reading_is_unique.ensures.some) 0

pub returns-clause-one_stream : goal.returns-clause-one_stream
returns-clause-one_stream c =
    c.stream_reading_is_unique.ensures.one (one_reason event c.message_reading_is_unique.ensures.value c.message_reading_is_unique.ensures.why c.message_reading_is_unique.ensures.apart) 0

pub returns-clause-one_body : goal.returns-clause-one_body
returns-clause-one_body c =
    c.chunking_is_irrelevant.ensures.whole (one_reason event c.message_reading_is_unique.ensures.value c.message_reading_is_unique.ensures.why c.message_reading_is_unique.ensures.apart) 0

pub returns-clause-one_front : goal.returns-clause-one_front
returns-clause-one_front c =
    c.chunking_is_irrelevant.ensures.front (one_reason event c.message_reading_is_unique.ensures.value c.message_reading_is_unique.ensures.why c.message_reading_is_unique.ensures.apart) 0
