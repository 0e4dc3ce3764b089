use Rattle.mes_session_log.proofs.EncodeLemmas.{so_far_more, log_of, unwritten_at}
use Rattle.mes_session_log.proofs.encode.encode_log.Goals as goal

pub returns-in-Err-put_entry-clause-err : goal.returns-in-Err-put_entry-clause-err
returns-in-Err-put_entry-clause-err c =
    let entry = c.index-entries-index in
    rw c.refused_at.ensures (unwritten_at c.args.limit c.args.entries.now c.loop-index.index entry.result c.in-Err-put_entry.fault c.loop-index-test.true entry.is c.loop-index.invariant.fit c.in-Err-put_entry.ensures.err)

pub loop-index-preserved : goal.loop-index-preserved
loop-index-preserved c =
    let entry = c.index-entries-index in
    so_far_more c.args.limit c.args.entries.now c.loop-index.index entry.result c.loop-index.log.items c.put_entry.new.log.items c.loop-index-test.true entry.is c.loop-index.invariant c.in_default-put_entry.ensures.ok

pub returns-clause-ok : goal.returns-clause-ok
returns-clause-ok c = log_of c.args.limit c.args.entries.now c.loop-index.index c.loop-index.log.items c.loop-index-test.false c.loop-index.invariant
