use Rattle.mes_session.proofs.ReplayLemmas.{get-is, so_far-push, stops, legal-whole}
use Rattle.mes_session.proofs.replaying.replay.Goals as goal

pub returns-in-Err-clause-err : goal.returns-in-Err-clause-err
returns-in-Err-clause-err c =
    stops c.args.entries.now c.loop-index.session c.index-entries-index.result c.loop-index.index c.in-Err.refusal
    (get-is c.args.entries.now c.loop-index.index c.index-entries-index.result c.loop-index-test.true c.index-entries-index.is) c.loop-index.invariant c.in-Err.ensures.err

pub loop-index-preserved : goal.loop-index-preserved
loop-index-preserved c =
    so_far-push c.args.entries.now c.loop-index.session c.apply_entry.new.self c.index-entries-index.result c.loop-index.index
    (get-is c.args.entries.now c.loop-index.index c.index-entries-index.result c.loop-index-test.true c.index-entries-index.is) c.loop-index.invariant c.in_default.ensures.passes c.in_default.ensures.next

pub returns-clause-legal : goal.returns-clause-legal
returns-clause-legal c = legal-whole c.args.entries.now c.loop-index.session c.loop-index.index c.loop-index-test.false c.loop-index.invariant
