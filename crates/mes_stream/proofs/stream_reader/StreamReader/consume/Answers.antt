use Rattle.std.proofs.Common.{◌∙◌, ℕ, subst, sym}
use Rattle.mes_stream.specs.Framings.{GoesBefore}
use Rattle.mes_stream.specs.declared.stream_reader.Framing.{Framing}
use Rattle.mes_stream.specs.declared.stream_reader.Framing.TheVariants.{Plain, Chunked, Lines}
use Rattle.mes_stream.proofs.ReportsLemmas.{plain_tells, chunked_tells, lines_tells}
use Rattle.mes_stream.proofs.stream_reader.StreamReader.consume.Goals as goal

pub returns-in-Plain-clause-reports : goal.returns-in-Plain-clause-reports
returns-in-Plain-clause-reports g c = λ ahead framing limit w values s.
    let t = rw c.in-Plain.is at s in
    plain_tells g.R.RecordReader.holds g.R.RecordReader.spells g.R.RecordReader.breaks ahead c.consume.new.self framing limit w c.args.piece.now values c.consume.result.used c.consume.result.out t.0 (c.consume.ensures.limit ∙ t.2) (c.consume.ensures.reports ahead w values t.1)

pub returns-in-Plain-clause-before : goal.returns-in-Plain-clause-before
returns-in-Plain-clause-before g c = λ ahead framing limit w values s.
    let t = rw c.in-Plain.is at s in
    subst (λ (f : Framing). GoesBefore f g.R.RecordReader.spells limit w values c.args.piece.now c.consume.result.used) (sym t.0)
    (subst (λ (n : ℕ). GoesBefore Plain g.R.RecordReader.spells n w values c.args.piece.now c.consume.result.used) (c.consume.ensures.limit ∙ t.2) (c.consume.ensures.before ahead w values t.1))

pub returns-in-Chunked-clause-reports : goal.returns-in-Chunked-clause-reports
returns-in-Chunked-clause-reports g c = λ ahead framing limit w values s.
    let t = rw c.in-Chunked.is at s in
    chunked_tells g.R.RecordReader.holds g.R.RecordReader.spells g.R.RecordReader.breaks ahead c.consume-in-Chunked.new.self framing limit w c.args.piece.now values c.consume-in-Chunked.result.used c.consume-in-Chunked.result.out t.0 (c.consume-in-Chunked.ensures.limit ∙ t.2) (c.consume-in-Chunked.ensures.reports ahead w values t.1)

pub returns-in-Chunked-clause-before : goal.returns-in-Chunked-clause-before
returns-in-Chunked-clause-before g c = λ ahead framing limit w values s.
    let t = rw c.in-Chunked.is at s in
    subst (λ (f : Framing). GoesBefore f g.R.RecordReader.spells limit w values c.args.piece.now c.consume-in-Chunked.result.used) (sym t.0)
    (subst (λ (n : ℕ). GoesBefore Chunked g.R.RecordReader.spells n w values c.args.piece.now c.consume-in-Chunked.result.used) (c.consume-in-Chunked.ensures.limit ∙ t.2) (c.consume-in-Chunked.ensures.before ahead w values t.1))

pub returns-in-Lines-clause-reports : goal.returns-in-Lines-clause-reports
returns-in-Lines-clause-reports g c = λ ahead framing limit w values s.
    let t = rw c.in-Lines.is at s in
    lines_tells g.R.RecordReader.holds g.R.RecordReader.spells g.R.RecordReader.breaks ahead c.consume-in-Lines.new.self framing limit w c.args.piece.now values c.consume-in-Lines.result.used c.consume-in-Lines.result.out t.0 (c.consume-in-Lines.ensures.limit ∙ t.2) (c.consume-in-Lines.ensures.reports ahead w values t.1)

pub returns-in-Lines-clause-before : goal.returns-in-Lines-clause-before
returns-in-Lines-clause-before g c = λ ahead framing limit w values s.
    let t = rw c.in-Lines.is at s in
    subst (λ (f : Framing). GoesBefore f g.R.RecordReader.spells limit w values c.args.piece.now c.consume-in-Lines.result.used) (sym t.0)
    (subst (λ (n : ℕ). GoesBefore Lines g.R.RecordReader.spells n w values c.args.piece.now c.consume-in-Lines.result.used) (c.consume-in-Lines.ensures.limit ∙ t.2) (c.consume-in-Lines.ensures.before ahead w values t.1))
