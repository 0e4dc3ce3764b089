use Rattle.std.proofs.Common.{ℕ, subst, sym}
use Rattle.mes_frame.proofs.ChunkParts.{open_of}
use Rattle.mes_stream.specs.Decoders.{HoldsIn}
use Rattle.mes_stream.specs.declared.stream_reader.Framing.{Framing}
use Rattle.mes_stream.specs.declared.stream_reader.Framing.TheVariants.{Plain, Chunked, Lines}
use Rattle.mes_stream.proofs.LineLemmas.{line_holds}
use Rattle.mes_stream.proofs.stream_reader.StreamReader.held.Goals as goal

pub returns-in-Plain-clause-most : goal.returns-in-Plain-clause-most
returns-in-Plain-clause-most g c = λ ahead framing limit w values s.
    let t = rw c.in-Plain.is at s in
    subst (λ (f : Framing). HoldsIn f g.R.RecordReader.spells g.R.RecordReader.max_held limit w values c.held.result) (sym t.0)
    (subst (λ (n : ℕ). HoldsIn Plain g.R.RecordReader.spells g.R.RecordReader.max_held n w values c.held.result) t.2 (c.held.ensures.most ahead w values t.1))

pub returns-in-Chunked-clause-most : goal.returns-in-Chunked-clause-most
returns-in-Chunked-clause-most g c = λ ahead framing limit w values s.
    let t = rw c.in-Chunked.is at s in
    subst (λ (f : Framing). HoldsIn f g.R.RecordReader.spells g.R.RecordReader.max_held limit w values c.held-in-Chunked.result) (sym t.0)
    (subst (λ (n : ℕ). HoldsIn Chunked g.R.RecordReader.spells g.R.RecordReader.max_held n w values c.held-in-Chunked.result) t.2
    (t.1.content, open_of _ w t.1.content t.1.chunks, c.held-in-Chunked.ensures.most ahead t.1.content values t.1.body))

pub returns-in-Lines-clause-most : goal.returns-in-Lines-clause-most
returns-in-Lines-clause-most g c = λ ahead framing limit w values s.
    let t = rw c.in-Lines.is at s in
    subst (λ (f : Framing). HoldsIn f g.R.RecordReader.spells g.R.RecordReader.max_held limit w values c.held_of_line.result) (sym t.0)
    (subst (λ (n : ℕ). HoldsIn Lines g.R.RecordReader.spells g.R.RecordReader.max_held n w values c.held_of_line.result) t.2
    (line_holds g.R.RecordReader.holds g.R.RecordReader.spells ahead g.R.RecordReader.max_held c.in-Lines.lines w values c.held_of_line.result t.1 (c.held_of_line.ensures.most t.1.r t.1.kept)))
