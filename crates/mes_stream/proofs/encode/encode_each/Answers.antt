use Rattle.mes_stream.proofs.SendLemmas.{plain_of_more, unsent_at, behind_refs, ref_at}
use Rattle.mes_stream.proofs.encode.encode_each.Goals as goal

pub returns-in-Err-clause-err : goal.returns-in-Err-clause-err
returns-in-Err-clause-err g c =
    let message = c.index-messages-index in
    rw c.refused_at.ensures (unsent_at g.M.Part.kind c.args.limit _ c.loop-index.index message.result.now c.in-Err.fault (behind_refs c.args.messages.now c.loop-index.index c.loop-index-test.true) (ref_at c.args.messages.now c.loop-index.index message.result c.loop-index-test.true message.is) c.loop-index.invariant.good c.in-Err.ensures.err)

pub loop-index-preserved : goal.loop-index-preserved
loop-index-preserved g c =
    let message = c.index-messages-index in
    let put = c.in_default.ensures in
    plain_of_more g.M.Part.kind c.args.limit _ c.loop-index.index message.result.now c.loop-index.body.items c.put_message.new.body.items (behind_refs c.args.messages.now c.loop-index.index c.loop-index-test.true) (ref_at c.args.messages.now c.loop-index.index message.result c.loop-index-test.true message.is) c.loop-index.invariant put.ok put.good put.read put.spells
