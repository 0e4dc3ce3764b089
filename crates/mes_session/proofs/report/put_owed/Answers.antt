use Rattle.mes_session.specs.Printed.{owed_line}
use Rattle.mes_session.proofs.ReportLemmas.{line_more, none_missing}
use Rattle.mes_session.proofs.report.put_owed.Goals.{in-Some+in_ok-put_key, in_default}
use Rattle.mes_session.proofs.report.put_owed.Goals as goal

pub loop-index-preserved : goal.loop-index-preserved
loop-index-preserved c = elim c.match-owed_at.branch [
  | in-Some+in_ok-put_key w ↦ rw w.lines-is (line_more owed_line c.args.session.now.owed c.loop-index.index w.in-Some.key.now c.args.lines.now.items c.loop-index.lines.items _ (rw w.in-Some.is at c.owed_at.ensures) c.loop-index.invariant w.in_ok-put_key.ensures)
  | in_default w ↦ absurd (none_missing owed_line c.args.session.now.owed c.loop-index.index (rw c.owed_len-index-end.ensures at c.loop-index-test.true) (rw w.in_default.is at c.owed_at.ensures))
]
