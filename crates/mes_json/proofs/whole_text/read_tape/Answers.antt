use Rattle.std.proofs.Common.{[], Some, ap, sym}
use Rattle.std.proofs.lemmas.Result.{err_from_is_err_and}
use Rattle.mes_json.specs.Machine.{State, run}
use Rattle.mes_json.proofs.ReadLemmas.{stopped_at_start, ran_from_start, stopped_only, stopped_fault, tape_read, tape_only, whole_first, ended_no_text, ended_fault}
use Rattle.mes_json.proofs.whole_text.read_tape.Goals as goal

pub take_all-requires-clause-reached : goal.take_all-requires-clause-reached
unfolding run
take_all-requires-clause-reached c = ([], ap (λ (s : State). Some s) (sym c.new-reader.ensures.start))

pub returns-in_err-take_all-clause-only : goal.returns-in_err-take_all-clause-only
returns-in_err-take_all-clause-only c =
    let p = err_from_is_err_and c.from_residual.result c.from_residual.ensures.1 in
    rw (p.1, p.2) (stopped_only c.args.bytes.now c.in_err-take_all.field-0.0 (stopped_at_start _ c.args.bytes.now _ c.new-reader.ensures.start c.in_err-take_all.ensures.fault))

pub returns-in_err-take_all-clause-fault : goal.returns-in_err-take_all-clause-fault
returns-in_err-take_all-clause-fault c =
    let p = err_from_is_err_and c.from_residual.result c.from_residual.ensures.1 in
    rw (p.1, p.2) (stopped_fault c.args.bytes.now c.in_err-take_all.field-0.0 (stopped_at_start _ c.args.bytes.now _ c.new-reader.ensures.start c.in_err-take_all.ensures.fault))

pub returns-in-Some-clause-read : goal.returns-in-Some-clause-read
returns-in-Some-clause-read c =
    tape_read c.args.bytes.now _ c.in_ok-tape.field-0 c.in-Some.tape (ran_from_start _ c.args.bytes.now _ c.new-reader.ensures.start c.in_ok-take_all.ensures.runs) c.in_ok-tape.ensures.ok c.in-Some.is

pub returns-in-Some-clause-only : goal.returns-in-Some-clause-only
returns-in-Some-clause-only c =
    tape_only c.args.bytes.now _ c.in_ok-tape.field-0 c.in-Some.tape (ran_from_start _ c.args.bytes.now _ c.new-reader.ensures.start c.in_ok-take_all.ensures.runs) c.in_ok-tape.ensures.ok c.in-Some.is

pub returns-in-None-clause-only : goal.returns-in-None-clause-only
returns-in-None-clause-only c t text =
    absurd (ended_no_text c.args.bytes.now _ c.in_ok-tape.field-0 (ran_from_start _ c.args.bytes.now _ c.new-reader.ensures.start c.in_ok-take_all.ensures.runs) c.in_ok-tape.ensures.ok c.in-None.is t text)

pub returns-in-None-clause-fault : goal.returns-in-None-clause-fault
returns-in-None-clause-fault c =
    ended_fault c.args.bytes.now _ c.in_ok-tape.field-0 (ran_from_start _ c.args.bytes.now _ c.new-reader.ensures.start c.in_ok-take_all.ensures.runs) c.in_ok-tape.ensures.ok c.in-None.is

pub returns-in_err-tape-clause-fault : goal.returns-in_err-tape-clause-fault
returns-in_err-tape-clause-fault c =
    let p = err_from_is_err_and c.from_residual-in_err-tape.result c.from_residual-in_err-tape.ensures.1 in
    rw (p.1, p.2)
    (whole_first c.args.bytes.now _ (ran_from_start _ c.args.bytes.now _ c.new-reader.ensures.start c.in_ok-take_all.ensures.runs) c.in_err-tape.ensures.err)
