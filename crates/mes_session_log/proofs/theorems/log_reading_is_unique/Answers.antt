use Rattle.mes_session_log.proofs.LogLaw.{once_behind, some_behind, one_log, some_log, whole_goes}
use Rattle.mes_session_log.proofs.theorems.log_reading_is_unique.Goals as goal

pub returns-clause-some : goal.returns-clause-some
returns-clause-some c =
    some_log (c.plain_reading_is_unique.ensures.one c.entry_reading_is_unique.ensures.one_first 0) (c.plain_reading_is_unique.ensures.some c.entry_reading_is_unique.ensures.some_first)
    (once_behind (c.plain_reading_is_unique-2.ensures.one (c.entry_reading_is_unique.ensures.one 1) 1) (c.plain_reading_is_unique-3.ensures.one (c.entry_reading_is_unique.ensures.one 2) 1))
    (some_behind (c.plain_reading_is_unique-2.ensures.some (c.entry_reading_is_unique.ensures.some 1) 1) (c.plain_reading_is_unique-3.ensures.some (c.entry_reading_is_unique.ensures.some 2) 1))
    c.record_reading_is_unique.ensures.one c.entry_reading_is_unique.ensures.one_first.value

pub returns-clause-one : goal.returns-clause-one
returns-clause-one c =
    one_log (c.plain_reading_is_unique.ensures.one c.entry_reading_is_unique.ensures.one_first 0) (c.plain_reading_is_unique.ensures.some c.entry_reading_is_unique.ensures.some_first)
    (once_behind (c.plain_reading_is_unique-2.ensures.one (c.entry_reading_is_unique.ensures.one 1) 1) (c.plain_reading_is_unique-3.ensures.one (c.entry_reading_is_unique.ensures.one 2) 1))
    (some_behind (c.plain_reading_is_unique-2.ensures.some (c.entry_reading_is_unique.ensures.some 1) 1) (c.plain_reading_is_unique-3.ensures.some (c.entry_reading_is_unique.ensures.some 2) 1))
    c.record_reading_is_unique.ensures.one c.entry_reading_is_unique.ensures.one_first.value

pub returns-clause-whole : goal.returns-clause-whole
returns-clause-whole c = whole_goes
