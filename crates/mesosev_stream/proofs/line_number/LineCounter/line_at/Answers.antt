use Rattle.std.proofs.Common.{arith}
use Rattle.mesosev_stream.proofs.LineNumberLemmas.{finds}
use Rattle.mesosev_stream.proofs.line_number.LineCounter.line_at.Goals as goal

pub returns : goal.returns
returns g c =
    let last = c.as_slice-last.ensures.value in
    finds c.args.self.now c.args.used c.min.result c.line_feeds_of-line_feeds.result c.saturating_add-2.result
    (rw (← last) (omega (arith, c.min.ensures, c.saturating_sub-inside.ensures, c.saturating_sub.ensures)))
    (rw (← last) c.line_feeds_of-line_feeds.ensures)
    (omega (arith, c.saturating_add-2.ensures, c.saturating_add.ensures))
