use Rattle.std.proofs.Common.{◌+◌, ◌++◌, length, ◌∙◌, arith, length-append}
use Rattle.std.proofs.lemmas.List.{take_rest}
use Rattle.mes_stream.proofs.ReadingLemmas.{ends_at}
use Rattle.mes_stream.proofs.counted_reader.Reading.feed.Goals as goal

pub returns-in-More-clause-takes : goal.returns-in-More-clause-takes
returns-in-More-clause-takes g c = λ ahead framing limit w before s.
    let fed = rw c.in-More.is at (c.feed-used.ensures.feeds ahead.records framing limit w before s.0) in
    let all = c.feed-used.ensures.more c.in-More.is in
    let counted = s.1 in
    (fed.0, fed.1, (fed.2, omega (arith, all, counted, c.saturating_add-self.ensures, length-append w c.args.piece.now)))

pub returns-in-End-clause-takes : goal.returns-in-End-clause-takes
returns-in-End-clause-takes g c = λ ahead framing limit w before s.
    let fed = rw c.in-End.is at (c.feed-used.ensures.feeds ahead.records framing limit w before s.0) in (
      fed.0,
      fed.1,
      ends_at framing g.R.RecordReader.spells ahead limit w c.args.piece.now (before ++ fed.0) c.args.self.now.used c.feed-used.result.used _ _ fed.2
          c.feed-used.ensures.used c.requires s.1 (c.keep_rest.ensures.used ∙ c.saturating_add-self.ensures) (c.keep_rest.ensures.rest ∙ take_rest c.args.piece.now c.feed-used.result.used) fed.3,
    )

pub returns-in-Fault-clause-takes : goal.returns-in-Fault-clause-takes
returns-in-Fault-clause-takes g c = λ ahead framing limit w before s.
    let fed = rw c.in-Fault.is at (c.feed-used.ensures.feeds ahead.records framing limit w before s.0) in
    let one = fed.2 in
    let small = c.requires in
    let counted = s.1 in (
      fed.0,
      fed.1,
      record {
        n = length w + c.feed-used.result.used;
        count = c.saturating_add-self.ensures ∙ omega (arith, counted);
        stops = fed.3;
        last = omega (arith, one, small, length-append w c.args.piece.now);
      },
    )

pub returns-in-End-clause-within : goal.returns-in-End-clause-within
returns-in-End-clause-within g c = λ ahead framing limit w before s.
    let fed = rw c.in-End.is at (c.feed-used.ensures.feeds ahead.records framing limit w before s.0) in
    let some = fed.2 in
    let counted = s.1 in
    omega (arith, some, counted, c.keep_rest.ensures.used, c.saturating_add-self.ensures)

pub returns-in-Fault-clause-within : goal.returns-in-Fault-clause-within
returns-in-Fault-clause-within g c = λ ahead framing limit w before s.
    let fed = rw c.in-Fault.is at (c.feed-used.ensures.feeds ahead.records framing limit w before s.0) in
    let some = fed.2 in
    let counted = s.1 in
    omega (arith, some, counted, c.saturating_add-self.ensures)
