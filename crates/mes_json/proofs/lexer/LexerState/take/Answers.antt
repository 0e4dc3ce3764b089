use Rattle.mes_json.specs.Reader.{state_view}
use Rattle.mes_json.proofs.ReadLemmas.{tape_read, tape_only, ended_no_text}
use Rattle.mes_json.proofs.LexerLemmas.{reading_at, faulty_at, faulty_only, counted_fault, counted_end, whole_text}
use Rattle.mes_json.proofs.lexer.LexerState.take.Goals as goal

pub returns-in-Some-clause-read : goal.returns-in-Some-clause-read
returns-in-Some-clause-read c p h =
    let reading = reading_at _ _ _ p c.in-Reading.is h in
    tape_read p (state_view c.in-Reading.reader) c.in_ok-tape-in-Reading.field-0 c.in-Some.tape reading.reached c.in_ok-tape-in-Reading.ensures.ok c.in-Some.is

pub returns-in-Some-clause-only : goal.returns-in-Some-clause-only
returns-in-Some-clause-only c p h =
    let reading = reading_at _ _ _ p c.in-Reading.is h in
    tape_only p (state_view c.in-Reading.reader) c.in_ok-tape-in-Reading.field-0 c.in-Some.tape reading.reached c.in_ok-tape-in-Reading.ensures.ok c.in-Some.is

pub returns-in-None-clause-only : goal.returns-in-None-clause-only
returns-in-None-clause-only c p h t text =
    let reading = reading_at _ _ _ p c.in-Reading.is h in
    absurd (ended_no_text p (state_view c.in-Reading.reader) c.in_ok-tape-in-Reading.field-0 reading.reached c.in_ok-tape-in-Reading.ensures.ok c.in-None.is t text)

pub returns-in-None-clause-fault : goal.returns-in-None-clause-fault
returns-in-None-clause-fault c p h =
    counted_end _ c.in-Reading.reader p c.in_ok-tape-in-Reading.field-0 (reading_at _ _ _ p c.in-Reading.is h) c.in_ok-tape-in-Reading.ensures.ok c.in-None.is

pub returns-in-Faulty-clause-only : goal.returns-in-Faulty-clause-only
returns-in-Faulty-clause-only c p h t text = absurd (faulty_only c.in-Faulty.fault p (faulty_at _ _ _ p c.in-Faulty.is h) t text)

pub returns-in-Faulty-clause-fault : goal.returns-in-Faulty-clause-fault
returns-in-Faulty-clause-fault c p h = counted_fault c.in-Faulty.fault p (faulty_at _ _ _ p c.in-Faulty.is h)

pub returns-in_err-tape-in-Reading-clause-reported : goal.returns-in_err-tape-in-Reading-clause-reported
returns-in_err-tape-in-Reading-clause-reported c p h no_text memory =
    let text = whole_text _ c.in-Reading.reader p (reading_at _ _ _ p c.in-Reading.is h) c.in_err-tape-in-Reading.ensures.err in
    absurd (no_text text.0 text.1)
