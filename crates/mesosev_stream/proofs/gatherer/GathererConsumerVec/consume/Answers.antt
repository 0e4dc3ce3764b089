use Rattle.mes_msg.specs.Texts.{IsTextOf}
use Rattle.mes_stream.specs.MessageData.{HoldsData, kept_data}
use Rattle.mes_stream.specs.RecordValues.{IsRefused}
use Rattle.mes_stream.specs.Refusals.{IsMessageRefusal}
use Rattle.mes_stream.proofs.ReadingLemmas.{gathers_more, gathers_last}
use Rattle.mesosev_stream.specs.Messages.{shown_as}
use Rattle.mesosev_stream.proofs.GatherLemmas.{stops_gathering}
use Rattle.mesosev_stream.proofs.gatherer.GathererConsumerVec.consume.Goals as goal

pub returns-clause-more : goal.returns-clause-more
returns-clause-more g c = λ first start w h. gathers_more HoldsData (IsTextOf g.M.Part.kind) (IsRefused (IsTextOf g.M.Part.kind) (IsMessageRefusal g.M.Part.kind)) first.reading c.args.self.now.reading c.feed.new.self start.items c.args.messages.now.items c.feed.new.values.items w c.args.piece.now c.feed.result h c.feed.ensures.takes

pub returns-clause-stop : goal.returns-clause-stop
returns-clause-stop g c = λ first start w h. stops_gathering (shown_as g.M.Part.kind g.M.ShownMessage.word g.M.ShownMessage.lines) first.reading c.args.self.now.reading c.feed.new.self start.items c.args.messages.now.items c.feed.new.values.items w c.args.piece.now c.feed.result h
    (gathers_last HoldsData (IsTextOf g.M.Part.kind) (IsRefused (IsTextOf g.M.Part.kind) (IsMessageRefusal g.M.Part.kind)) kept_data first.reading c.args.self.now.reading c.feed.new.self start.items c.args.messages.now.items c.feed.new.values.items w c.args.piece.now c.feed.result h c.feed.ensures.takes c.feed.ensures.kept)
    c.feed.ensures.within
