use Rattle.mes_msg.specs.Events.{event}
use Rattle.mes_msg.specs.Calls.{call}
use Rattle.mes_session_log_entry.proofs.EntryLaw.{OneMessage, first_exact, first_decided, entry_exact, entry_decided}
use Rattle.mes_session_log_entry.proofs.theorems.entry_reading_is_unique.Goals as goal

pub returns-clause-one : goal.returns-clause-one
returns-clause-one c =
    let events : OneMessage event = record { some = c.message_reading_is_unique.ensures.some; value = c.message_reading_is_unique.ensures.value; why = c.message_reading_is_unique.ensures.why; apart = c.message_reading_is_unique.ensures.apart } in
    let calls : OneMessage call = record { some = c.message_reading_is_unique-2.ensures.some; value = c.message_reading_is_unique-2.ensures.value; why = c.message_reading_is_unique-2.ensures.why; apart = c.message_reading_is_unique-2.ensures.apart } in
    entry_exact events calls

pub returns-clause-some : goal.returns-clause-some
returns-clause-some c =
    let events : OneMessage event = record { some = c.message_reading_is_unique.ensures.some; value = c.message_reading_is_unique.ensures.value; why = c.message_reading_is_unique.ensures.why; apart = c.message_reading_is_unique.ensures.apart } in
    let calls : OneMessage call = record { some = c.message_reading_is_unique-2.ensures.some; value = c.message_reading_is_unique-2.ensures.value; why = c.message_reading_is_unique-2.ensures.why; apart = c.message_reading_is_unique-2.ensures.apart } in
    entry_decided events calls

pub returns-clause-one_first : goal.returns-clause-one_first
returns-clause-one_first c =
    let events : OneMessage event = record { some = c.message_reading_is_unique.ensures.some; value = c.message_reading_is_unique.ensures.value; why = c.message_reading_is_unique.ensures.why; apart = c.message_reading_is_unique.ensures.apart } in
    let calls : OneMessage call = record { some = c.message_reading_is_unique-2.ensures.some; value = c.message_reading_is_unique-2.ensures.value; why = c.message_reading_is_unique-2.ensures.why; apart = c.message_reading_is_unique-2.ensures.apart } in
    first_exact events calls

pub returns-clause-some_first : goal.returns-clause-some_first
returns-clause-some_first c =
    let events : OneMessage event = record { some = c.message_reading_is_unique.ensures.some; value = c.message_reading_is_unique.ensures.value; why = c.message_reading_is_unique.ensures.why; apart = c.message_reading_is_unique.ensures.apart } in
    let calls : OneMessage call = record { some = c.message_reading_is_unique-2.ensures.some; value = c.message_reading_is_unique-2.ensures.value; why = c.message_reading_is_unique-2.ensures.why; apart = c.message_reading_is_unique-2.ensures.apart } in
    first_decided events calls
