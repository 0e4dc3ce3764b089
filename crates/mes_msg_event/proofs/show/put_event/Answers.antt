use Rattle.mes_msg_event.proofs.WordLemmas.{three_words}
use Rattle.mes_msg_event.proofs.show.put_event.Goals as goal

pub returns-in_ok-put_id-in-Subscribed : goal.returns-in_ok-put_id-in-Subscribed
returns-in_ok-put_id-in-Subscribed c =
    rw c.in-Subscribed.is (three_words c.put_some_seconds.result c.args.line.now.items _ _ _ _ _ _
    c.in_ok-put_word-in-Subscribed.ensures c.in_ok-put_id-in-Subscribed.ensures c.put_some_seconds.ensures)
