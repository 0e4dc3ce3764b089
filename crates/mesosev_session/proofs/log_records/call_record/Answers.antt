use Rattle.mes_msg.specs.Calls.{call}
use Rattle.mes_msg.specs.declared.entry.Entry.TheVariants.{Said}
use Rattle.mesosev_session.proofs.RecordLemmas.{record_err, record_ok}
use Rattle.mesosev_session.proofs.log_records.call_record.Goals as goal

pub returns-clause-ok : goal.returns-clause-ok
returns-clause-ok c = record_ok call (λ x. Said x) c.args.bytes.now c.in_ok-call.call c.args.most c.in_ok-call.ensures.ok c.record_of.result c.record_of.ensures.ok

pub returns-clause-err : goal.returns-clause-err
returns-clause-err c = record_err call (λ x. Said x) c.args.bytes.now c.in_ok-call.call c.args.most c.in_ok-call.ensures.ok c.record_of.result c.record_of.ensures.err
