use Rattle.mes_stream.proofs.SendLemmas.{unsent_at}
use Rattle.mesosev_stream.specs.Messages.{shown_as}
use Rattle.mesosev_stream.proofs.JsonLineLemmas.{lines_of_more}
use Rattle.mesosev_stream.proofs.json_lines.encode_lines.Goals as goal

pub returns-in-Err-clause-err : goal.returns-in-Err-clause-err
returns-in-Err-clause-err g c =
    let message = c.index-messages-index in
    rw c.refused_at.ensures (unsent_at g.M.Part.kind c.args.limit c.args.messages.now c.loop-index.index message.result c.in-Err.fault c.loop-index-test.true message.is c.loop-index.invariant.have.good c.in-Err.ensures.err)

pub loop-index-preserved : goal.loop-index-preserved
loop-index-preserved g c =
    let message = c.index-messages-index in
    let put = c.in_default.ensures in
    lines_of_more (shown_as g.M.Part.kind g.M.ShownMessage.word g.M.ShownMessage.lines) c.args.limit c.args.messages.now message.result c.loop-index.index c.loop-index.body.items c.put_line.new.body.items c.loop-index-test.true message.is c.loop-index.invariant put.ok put.good put.spells
