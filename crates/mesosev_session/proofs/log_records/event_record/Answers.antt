use Rattle.mes_msg.specs.Events.{event}
use Rattle.mes_msg.specs.declared.entry.Entry.TheVariants.{Heard}
use Rattle.mesosev_session.proofs.RecordLemmas.{record_err, record_ok}
use Rattle.mesosev_session.proofs.log_records.event_record.Goals as goal

pub returns-clause-ok : goal.returns-clause-ok
returns-clause-ok c = record_ok event (λ x. Heard x) c.args.bytes.now c.in_ok-event.event c.args.most c.in_ok-event.ensures.ok c.record_of.result c.record_of.ensures.ok

pub returns-clause-err : goal.returns-clause-err
returns-clause-err c = record_err event (λ x. Heard x) c.args.bytes.now c.in_ok-event.event c.args.most c.in_ok-event.ensures.ok c.record_of.result c.record_of.ensures.err
