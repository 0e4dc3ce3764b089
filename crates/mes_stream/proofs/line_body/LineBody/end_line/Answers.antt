use Rattle.mes_stream.proofs.LineLemmas.{line_ended, line_fits, line_passed}
use Rattle.mes_stream.proofs.line_body.LineBody.end_line.Goals as goal
use Rattle.mes_stream.proofs.line_body.LineBody.end_line.Goals.{then-is_blank, else-is_blank}

pub returns-clause-reports : goal.returns-clause-reports
returns-clause-reports g c = λ rest ahead b values s.
    elim c.if-is_blank.branch [
      | then-is_blank w ↦ rw (w.result-is, c.saturating_add-self.ensures) (line_passed g.R.RecordReader.holds g.R.RecordReader.spells ahead c.args.self.now b values s w.if-is_blank.true)
      | else-is_blank w ↦
          rw (w.result-is, c.saturating_add-self.ensures) (
            s.r,
            s.kept,
            line_fits g.R.RecordReader.holds g.R.RecordReader.spells ahead c.args.self.now b values s,
            λ after answer same ends. line_ended g.R.RecordReader.holds g.R.RecordReader.spells ahead c.args.self.now b values s g.R.RecordReader.breaks rest after answer w.if-is_blank.false same ends,
          )
    ]
