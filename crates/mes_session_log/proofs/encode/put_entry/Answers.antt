use Rattle.mes_session_log.proofs.EncodeLemmas.{event_added, call_added, adds_break}
use Rattle.mes_session_log.proofs.encode.put_entry.Goals as goal

pub returns-in-Heard-clause-ok : goal.returns-in-Heard-clause-ok
returns-in-Heard-clause-ok c =
    let put = c.put_message.ensures in
    rw c.in-Heard.is (event_added c.put_message.result c.args.limit c.in-Heard.event _ _ put.ok put.fit put.again put.short)

pub returns-in-Said-clause-ok : goal.returns-in-Said-clause-ok
returns-in-Said-clause-ok c =
    let put = c.put_message-in-Said.ensures in
    rw c.in-Said.is (call_added c.put_message-in-Said.result c.args.limit c.in-Said.call _ _ put.ok put.fit put.again put.short)

pub returns-in_ok-put_record-in-Broken-clause-ok : goal.returns-in_ok-put_record-in-Broken-clause-ok
returns-in_ok-put_record-in-Broken-clause-ok c = rw c.in-Broken.is (adds_break c.args.limit _ _ c.in_ok-put_record-in-Broken.ensures)
