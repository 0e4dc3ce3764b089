use Rattle.mes_stream.proofs.stream_reader.StreamReader.line_feeds.Goals as goal

pub returns-in-Lines : goal.returns-in-Lines
returns-in-Lines g c = λ ahead limit w values represents.
    let lines = rw c.in-Lines.is at represents in
    c.line_feeds.ensures ahead w values lines.1
