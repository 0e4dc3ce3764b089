use Rattle.mes_session_log_entry.proofs.LetteredLemmas.{alone_more, call_begins, event_begins, some_bytes}
use Rattle.mes_session_log_entry.proofs.lettered_text.LetteredReader.push_after.Goals as goal

pub returns-then-not-is_empty-clause-ok : goal.returns-then-not-is_empty-clause-ok
returns-then-not-is_empty-clause-ok c = λ r some h.
    alone_more c.args.self.now.lexer c.in-Alone.field-0 r c.args.bytes.now (some_bytes c.args.bytes.now c.is_empty.result c.is_empty.ensures c.if-not-is_empty.true) (rw c.in-Alone.is at h)

pub returns-in-Event-clause-begins : goal.returns-in-Event-clause-begins
returns-in-Event-clause-begins c = λ r some h. event_begins c.args.self.now.lexer r c.args.bytes.now c.push_run.result c.push_run.ensures.begins (rw c.in-Event.is at h)

pub returns-in-Call-clause-begins : goal.returns-in-Call-clause-begins
returns-in-Call-clause-begins c = λ r some h. call_begins c.args.self.now.lexer r c.args.bytes.now c.push_run-in-Call.result c.push_run-in-Call.ensures.begins (rw c.in-Call.is at h)
