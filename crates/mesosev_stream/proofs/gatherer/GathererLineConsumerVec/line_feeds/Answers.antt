use Rattle.std.proofs.Common.{[]}
use Rattle.mes_stream.specs.Reading.{nothing_ahead}
use Rattle.mes_stream.specs.declared.stream_reader.Framing.TheVariants.{Lines}
use Rattle.mesosev_stream.proofs.gatherer.GathererLineConsumerVec.line_feeds.Goals as goal

pub returns : goal.returns
returns g c = λ first start to w starts goes.
    let (more, is, represents) = goes nothing_ahead Lines starts.0 [] [] starts.1 in
    c.line_feeds.ensures nothing_ahead starts.0 w more represents
