use Rattle.mes_session_log.proofs.LogLemmas.{behind_header, behind_entry}
use Rattle.mes_session_log.proofs.log_reading.stage_after.Goals as goal

pub returns-in-Header-clause-ok : goal.returns-in-Header-clause-ok
returns-in-Header-clause-ok c = rw c.in-Header.is (λ head content framed says counted. behind_header c.args.limit c.args.used head content c.following.result c.following.ensures framed says counted)

pub returns-in_ok-add-in-Entry-clause-ok : goal.returns-in_ok-add-in-Entry-clause-ok
returns-in_ok-add-in-Entry-clause-ok c =
    rw c.in-Entry.is (λ head content framed says counted. behind_entry c.args.limit c.args.used head content c.in-Entry.entry c.following-in-Entry.result c.following-in-Entry.ensures framed says counted)
