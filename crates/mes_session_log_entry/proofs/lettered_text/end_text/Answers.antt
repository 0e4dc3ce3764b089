use Rattle.std.proofs.Common.{ap, Err, ◌∙◌}
use Rattle.std.proofs.lemmas.Result.{err_from_is_err_and}
use Rattle.mes_json.proofs.LexerLemmas.{text_begins}
use Rattle.mes_msg_record.proofs.RecordLemmas.{begins, refused_by}
use Rattle.mes_stream.proofs.MessageLemmas.{begins_known, known_read}
use Rattle.mes_session_log_entry.proofs.LetteredLemmas.{text_refused, lexed_refused}
use Rattle.mes_session_log_entry.proofs.lettered_text.end_text.Goals as goal

pub returns-in_err-tape-clause-err : goal.returns-in_err-tape-clause-err
returns-in_err-tape-clause-err g c = λ text h short.
    let p = err_from_is_err_and c.from_residual.result c.from_residual.ensures.1 in
    rw (p.1, p.2) (lexed_refused g.T.Part.kind text _ short (c.in_err-tape.ensures.fault text h.lexed)
    (λ none. begins_known text (λ not. c.in_err-tape.ensures.reported text h.lexed (λ t whole. not (text_begins text t whole)) h.memory (ap Err none))))

pub returns-in_err-message-clause-err : goal.returns-in_err-message-clause-err
returns-in_err-message-clause-err g c = λ text h short.
    let p = err_from_is_err_and c.from_residual-in_err-message.result c.from_residual-in_err-message.ensures.1 in
    let spelt = c.in_ok-tape.ensures.read text h.lexed in
    rw (p.1, p.2) (text_refused g.T.Part.kind text _ (λ none. text_begins text spelt.0 spelt.1)
    (refused_by g.T.Part.kind text _ spelt.0 _ c.new.ensures spelt.1 (c.in_err-message.ensures spelt.0 (begins _ spelt.0 (c.root.ensures ∙ spelt.2)))))

pub returns-clause-ok : goal.returns-clause-ok
returns-clause-ok g c = λ text h short.
    let spelt = c.in_ok-tape.ensures.read text h.lexed in
    (spelt.0, spelt.1, g.met.T.Part.lawful.sound _ spelt.0 _ (c.in_ok-message.ensures spelt.0 (begins _ spelt.0 (c.root.ensures ∙ spelt.2))))

pub returns-in_err-tape-clause-memory : goal.returns-in_err-tape-clause-memory
returns-in_err-tape-clause-memory g c = λ text h not.
    let p = err_from_is_err_and c.from_residual.result c.from_residual.ensures.1 in
    rw (p.1, p.2) (known_read _ (λ none. c.in_err-tape.ensures.reported text h.lexed (λ t whole. not (t, whole)) h.memory (ap Err none)))

pub returns-in_err-message-clause-memory : goal.returns-in_err-message-clause-memory
returns-in_err-message-clause-memory g c = λ text h not.
    let spelt = c.in_ok-tape.ensures.read text h.lexed in absurd (not (spelt.0, spelt.1))
