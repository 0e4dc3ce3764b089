use Rattle.mes_session.specs.Printed.{hand_line}
use Rattle.mes_session.proofs.ReportLemmas.{line_more, none_missing}
use Rattle.mes_session.proofs.report.put_hand.Goals.{in-Some+in_ok-put_offer, in_default}
use Rattle.mes_session.proofs.report.put_hand.Goals as goal

pub loop-index-preserved : goal.loop-index-preserved
loop-index-preserved c = elim c.match-hand_at.branch [
  | in-Some+in_ok-put_offer w ↦ rw w.lines-is (line_more hand_line c.args.session.now.hand c.loop-index.index w.in-Some.offer.now c.args.lines.now.items c.loop-index.lines.items _ (rw w.in-Some.is at c.hand_at.ensures) c.loop-index.invariant w.in_ok-put_offer.ensures)
  | in_default w ↦ absurd (none_missing hand_line c.args.session.now.hand c.loop-index.index (rw c.hand_len-index-end.ensures at c.loop-index-test.true) (rw w.in_default.is at c.hand_at.ensures))
]
