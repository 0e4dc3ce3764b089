use Rattle.mes_stream.specs.declared.stream_reader.Framing.TheVariants.{Chunked}
use Rattle.mes_stream.proofs.decoder.RecordDecoder.held.Goals as goal

pub returns-in-Going-clause-held : goal.returns-in-Going-clause-held
returns-in-Going-clause-held g c = λ limit w values s. c.held.ensures.most 0 Chunked limit w values (rw c.in-Going.is at s)
