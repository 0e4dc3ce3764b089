use Rattle.std.proofs.Common.{ℕ, Ok, Err, sym, subst, refl}
use Rattle.mes_stream.specs.Framings.{GoesIn, InputEnds}
use Rattle.mes_stream.specs.declared.fault.Fault.TheVariants.{EndsInsideChunks, EndsInsideRecord}
use Rattle.mes_stream.specs.declared.stream_reader.Framing.{Framing}
use Rattle.mes_stream.specs.declared.stream_reader.Framing.TheVariants.{Plain, Lines}
use Rattle.mes_stream.proofs.StreamLemmas.{goes_behind}
use Rattle.mes_stream.proofs.stream_reader.StreamReader.finish.Goals as goal

pub returns-in-Chunked : goal.returns-in-Chunked
returns-in-Chunked g c = λ ahead framing limit w values s.
    let t = rw c.in-Chunked.is at s in
    let live = goes_behind g.R.RecordReader.holds g.R.RecordReader.spells ahead c.args.self.now framing limit w values s in
    subst (λ (f : Framing). InputEnds {T = Unit {0}} f g.R.RecordReader.spells limit w values (Err EndsInsideChunks)) (sym t.0)
    (subst (λ (f : Framing). GoesIn f g.R.RecordReader.spells limit w values) t.0 live, refl)

pub returns-then-between : goal.returns-then-between
returns-then-between g c = λ ahead framing limit w values s.
    let t = rw c.in-Plain.is at s in
    subst (λ (f : Framing). InputEnds {T = Unit {0}} f g.R.RecordReader.spells limit w values (Ok tt)) (sym t.0)
    (subst (λ (n : ℕ). InputEnds {T = Unit {0}} Plain g.R.RecordReader.spells n w values (Ok tt)) t.2 (c.if-between.ensures.whole ahead w values t.1 refl))

pub returns-else-between : goal.returns-else-between
returns-else-between g c = λ ahead framing limit w values s.
    let t = rw c.in-Plain.is at s in
    subst (λ (f : Framing). InputEnds {T = Unit {0}} f g.R.RecordReader.spells limit w values (Err EndsInsideRecord)) (sym t.0)
    (subst (λ (n : ℕ). InputEnds {T = Unit {0}} Plain g.R.RecordReader.spells n w values (Err EndsInsideRecord)) t.2 (c.if-between.ensures.inside ahead w values t.1 refl, refl))

pub returns-then-between-2 : goal.returns-then-between-2
returns-then-between-2 g c = λ ahead framing limit w values s.
    let t = rw c.in-Lines.is at s in
    subst (λ (f : Framing). InputEnds {T = Unit {0}} f g.R.RecordReader.spells limit w values (Ok tt)) (sym t.0)
    (subst (λ (n : ℕ). InputEnds {T = Unit {0}} Lines g.R.RecordReader.spells n w values (Ok tt)) t.2 (c.if-between-2.ensures.whole ahead w values t.1 refl))

pub returns-else-between-2 : goal.returns-else-between-2
returns-else-between-2 g c = λ ahead framing limit w values s.
    let t = rw c.in-Lines.is at s in
    subst (λ (f : Framing). InputEnds {T = Unit {0}} f g.R.RecordReader.spells limit w values (Err EndsInsideRecord)) (sym t.0)
    (subst (λ (n : ℕ). InputEnds {T = Unit {0}} Lines g.R.RecordReader.spells n w values (Err EndsInsideRecord)) t.2 (c.if-between-2.ensures.inside ahead w values t.1 refl, refl))
