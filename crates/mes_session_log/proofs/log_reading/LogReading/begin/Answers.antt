use Rattle.std.proofs.Common.{refl}
use Rattle.std.proofs.lemmas.Result.{err_from_is_err_and}
use Rattle.mes_session_log.specs.declared.log_reading.Stage.TheVariants as stage
use Rattle.mes_session_log.proofs.LogLemmas.{begins_none, begins_stop, begins_some, begins_refused, begins_behind}
use Rattle.mes_session_log.proofs.log_reading.LogReading.begin.Goals as goal

pub returns-in_err-self-in-Ok-Some-clause-begins : goal.returns-in_err-self-in-Ok-Some-clause-begins
returns-in_err-self-in-Ok-Some-clause-begins c = λ limit w before h.
    let p = err_from_is_err_and c.from_residual.result c.from_residual.ensures.1 in
    let ended = c.in-Ok-Some.field-0-0 in
    let within = rw c.in-Ok-Some.field-0-is at c.in-Ok-Some.ensures.within in
    let refused = c.in_err-self-in-Ok-Some.ensures in
    rw (p.1, p.2, refused.err) (begins_refused c.in-First.reading c.next.new.self limit c.used-bytes.result w c.args.piece.now before c.args.entries.now.items c.stage_after.new.entries.items
    ended.value ended.used within.0 within.1 c.requires (rw c.in-Ok-Some.field-0-is at c.in-Ok-Some.ensures.reads) (rw c.in-First.is at h.1) c.used-bytes.ensures.count c.used-bytes.ensures.taken
    refused.err_entries ended.value refl refused.err_first)

pub returns-in_ok-self-in-Ok-Some-clause-begins : goal.returns-in_ok-self-in-Ok-Some-clause-begins
returns-in_ok-self-in-Ok-Some-clause-begins c = λ limit w before h.
    let ended = c.in-Ok-Some.field-0-0 in
    let following = c.in_ok-self-in-Ok-Some.ensures in
    begins_some c.in-First.reading c.next.new.self limit c.used-bytes.result w c.args.piece.now before c.args.entries.now.items c.stage_after.new.entries.items ended.value ended.used
    c.in_ok-self-in-Ok-Some.field-0 ended.value refl (rw c.in-Ok-Some.field-0-is at c.in-Ok-Some.ensures.reads) (rw c.in-First.is at h.1) c.used-bytes.ensures.taken
    (rw h.0 at following.ok) following.ok_entries

pub returns-in-Ok-None-clause-begins : goal.returns-in-Ok-None-clause-begins
returns-in-Ok-None-clause-begins c = λ limit w before h.
    begins_none c.in-First.reading c.next.new.self limit w c.args.piece.now before c.args.entries.now.items (rw c.in-Ok-None.field-0-is at c.in-Ok-None.ensures.reads) (rw c.in-First.is at h.1)

pub returns-in-Err-clause-begins : goal.returns-in-Err-clause-begins
returns-in-Err-clause-begins c = λ limit w before h.
    begins_stop c.in-First.reading c.next.new.self limit w c.args.piece.now before c.args.entries.now.items c.in-Err.stop c.in-Err.ensures.reads (rw c.in-First.is at h.1)

pub returns-in-One-clause-begins : goal.returns-in-One-clause-begins
returns-in-One-clause-begins c = λ limit w before h.
    rw c.in-One.is (begins_behind (stage.One c.in-One.field-0) limit w c.args.piece.now before c.args.entries.now.items (rw c.in-One.is at h.1))

pub returns-in-Two-clause-begins : goal.returns-in-Two-clause-begins
returns-in-Two-clause-begins c = λ limit w before h.
    rw c.in-Two.is (begins_behind (stage.Two c.in-Two.field-0) limit w c.args.piece.now before c.args.entries.now.items (rw c.in-Two.is at h.1))
