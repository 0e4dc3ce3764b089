use Rattle.std.proofs.Common.{ap, Err, ◌∙◌, inl, inr, refl}
use Rattle.std.proofs.lemmas.Result.{err_from_is_err_and}
use Rattle.mes_json.proofs.LexerLemmas.{text_begins}
use Rattle.mes_msg_record.proofs.RecordLemmas.{begins, refused_by}
use Rattle.mes_stream.proofs.MessageLemmas.{begins_known, known_read, refuses, text_refused}
use Rattle.mes_stream.proofs.message_reader.MessageReaderRecordReader.finish_into.Goals as goal

pub returns-in_err-tape-clause-adds : goal.returns-in_err-tape-clause-adds
returns-in_err-tape-clause-adds g c = λ r h short.
    let p = err_from_is_err_and c.from_residual.result c.from_residual.ensures.1 in
    rw (p.1, p.2) (inl (text_refused g.M.Part.kind r _ short (c.in_err-tape.ensures.fault r h.lexed) (λ none. begins_known r (λ not. c.in_err-tape.ensures.reported r h.lexed (λ t text. not (text_begins r t text)) h.memory (ap Err none)))), refl)

pub returns-in_err-message-clause-adds : goal.returns-in_err-message-clause-adds
returns-in_err-message-clause-adds g c = λ r h short.
    let p = err_from_is_err_and c.from_residual-in_err-message.result c.from_residual-in_err-message.ensures.1 in
    let spelt = c.in_ok-tape.ensures.read r h.lexed in
    rw (p.1, p.2) (
      inl (refuses g.M.Part.kind r _ (λ none. text_begins r spelt.0 spelt.1)
          (refused_by g.M.Part.kind r _ spelt.0 _ refl spelt.1 (c.in_err-message.ensures spelt.0 (begins _ spelt.0 (c.root.ensures ∙ spelt.2))))),
      refl,
    )

pub returns-in-Err-clause-adds : goal.returns-in-Err-clause-adds
returns-in-Err-clause-adds g c = λ r h short.
    let spelt = c.in_ok-tape.ensures.read r h.lexed in
    let says = g.met.M.Part.lawful.sound _ spelt.0 _ (c.in_ok-message.ensures spelt.0 (begins _ spelt.0 (c.root.ensures ∙ spelt.2))) in
    (inr (refl, (c.in_ok-message.message, (spelt.0, spelt.1, says)), record { lexed = c.in_ok-tape.ensures.lexed; memory = c.in_ok-tape.ensures.memory }), c.in-Err.ensures.err)

pub returns-clause-adds : goal.returns-clause-adds
returns-clause-adds g c = λ r h short.
    let spelt = c.in_ok-tape.ensures.read r h.lexed in
    (c.in_ok-message.message, (spelt.0, spelt.1, g.met.M.Part.lawful.sound _ spelt.0 _ (c.in_ok-message.ensures spelt.0 (begins _ spelt.0 (c.root.ensures ∙ spelt.2)))), c.in_default.ensures.ok)

pub returns-in_err-tape-clause-memory : goal.returns-in_err-tape-clause-memory
returns-in_err-tape-clause-memory g c = λ r h short not.
    let p = err_from_is_err_and c.from_residual.result c.from_residual.ensures.1 in
    rw (p.1, p.2) (known_read _ (λ none. c.in_err-tape.ensures.reported r h.lexed (λ t text. not (t, text)) h.memory (ap Err none)))

pub returns-in_err-message-clause-memory : goal.returns-in_err-message-clause-memory
returns-in_err-message-clause-memory g c = λ r h short not.
    let spelt = c.in_ok-tape.ensures.read r h.lexed in absurd (not (spelt.0, spelt.1))

pub returns-in-Err-clause-memory : goal.returns-in-Err-clause-memory
returns-in-Err-clause-memory g c = λ r h short not.
    let spelt = c.in_ok-tape.ensures.read r h.lexed in absurd (not (spelt.0, spelt.1))
