use Rattle.mes_stream.proofs.counted_reader.Reading.held.Goals as goal

pub returns-clause-most : goal.returns-clause-most
returns-clause-most g c = λ ahead framing limit w values s. c.held.ensures.most ahead.records framing limit w values s.0
