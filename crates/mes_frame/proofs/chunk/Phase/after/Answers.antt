use Rattle.mes_frame.proofs.chunk.Phase.after.Goals as goal

pub returns-in-Extension-clause-steps : goal.returns-in-Extension-clause-steps
returns-in-Extension-clause-steps c = λ x d represents. c.after_extension.ensures.steps x d (rw c.in-Extension.is at represents)

pub returns-in-LineEnd-clause-steps : goal.returns-in-LineEnd-clause-steps
returns-in-LineEnd-clause-steps c = λ x d represents. c.after_line.ensures.steps x d (rw c.in-LineEnd.is at represents)

pub returns-in-Data-clause-steps : goal.returns-in-Data-clause-steps
returns-in-Data-clause-steps c = λ x d represents. c.after_data.ensures.steps x d (rw c.in-Data.is at represents)

pub returns-in-DataEnd-clause-steps : goal.returns-in-DataEnd-clause-steps
returns-in-DataEnd-clause-steps c = λ x d represents. c.after_data_cr.ensures.steps x d (rw c.in-DataEnd.is at represents)

pub returns-in-Trailer-clause-steps : goal.returns-in-Trailer-clause-steps
returns-in-Trailer-clause-steps c = λ x d represents. c.after_trailer.ensures.steps x d (rw c.in-Trailer.is at represents)

pub returns-in-TrailerEnd-clause-steps : goal.returns-in-TrailerEnd-clause-steps
returns-in-TrailerEnd-clause-steps c = λ x d represents. c.after_trailer_cr.ensures.steps x d (rw c.in-TrailerEnd.is at represents)

pub returns-in-End-clause-steps : goal.returns-in-End-clause-steps
returns-in-End-clause-steps c = λ x d represents. c.after_end_cr.ensures.steps x d (rw c.in-End.is at represents)
