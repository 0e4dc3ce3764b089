use Rattle.std.proofs.Common.{◌+◌, ◌-◌, ◌<◌, length, take, ◌∙◌, arith, length-append, length-take-le}
use Rattle.std.proofs.lemmas.List.{take_rest}
use Rattle.mes_stream.proofs.ReadingLemmas.{ends_at, whole_at, stops_at}
use Rattle.mes_stream.proofs.counted_reader.Reading.next.Goals as goal

pub returns-in-Event-clause-reads : goal.returns-in-Event-clause-reads
returns-in-Event-clause-reads g c = λ ahead framing limit w values s.
    let said = rw c.in-Event.is at (c.next-used.ensures.says ahead.records framing limit w values s.0) in
    let some : 0 < c.next-used.result.used = (rw c.in-Event.is at c.next-used.ensures.some) (λ more. absurd (cc)) in
    let counted = s.1 in (
      (said.0, c.saturating_add-self.ensures ∙ omega (arith, counted, length-append w (take c.next-used.result.used c.args.piece.now), length-take-le c.next-used.result.used c.args.piece.now c.next-used.ensures.used)),
      whole_at framing g.R.RecordReader.spells limit w c.args.piece.now values c.in-Event.value c.next-used.result.used some c.next-used.ensures.used said.1,
      said.1,
      c.next-used.ensures.before ahead.records framing limit w values s.0,
    )

pub returns-in-End-clause-reads : goal.returns-in-End-clause-reads
returns-in-End-clause-reads g c = λ ahead framing limit w values s.
    let said = rw c.in-End.is at (c.next-used.ensures.says ahead.records framing limit w values s.0) in
    let some : 0 < c.next-used.result.used = (rw c.in-End.is at c.next-used.ensures.some) (λ more. absurd (cc)) in
    ends_at framing g.R.RecordReader.spells ahead limit w c.args.piece.now values c.args.self.now.used c.next-used.result.used _ _ some c.next-used.ensures.used c.requires s.1
    (c.keep_rest.ensures.used ∙ c.saturating_add-self.ensures) (c.keep_rest.ensures.rest ∙ take_rest c.args.piece.now c.next-used.result.used) said

pub returns-in-Fault-clause-reads : goal.returns-in-Fault-clause-reads
returns-in-Fault-clause-reads g c = λ ahead framing limit w values s.
    let said = rw c.in-Fault.is at (c.next-used.ensures.says ahead.records framing limit w values s.0) in
    let some : 0 < c.next-used.result.used = (rw c.in-Fault.is at c.next-used.ensures.some) (λ more. absurd (cc)) in
    let small = c.requires in
    let counted = s.1 in
    record {
      n = length w + c.next-used.result.used;
      count = c.saturating_add-self.ensures ∙ omega (arith, counted);
      stops = stops_at framing g.R.RecordReader.spells g.R.RecordReader.breaks ahead limit w c.args.piece.now values c.in-Fault.fault c.next-used.result.used some c.next-used.ensures.used
          (c.next-used.ensures.before ahead.records framing limit w values s.0 (c.next-used.result.used - 1) (omega (arith, some))) said;
      last = omega (arith, some, small, length-append w c.args.piece.now);
    }
