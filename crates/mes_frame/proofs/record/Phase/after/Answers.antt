use Rattle.mes_frame.proofs.record.Phase.after.Goals as goal

pub returns-in-Data-clause-steps : goal.returns-in-Data-clause-steps
returns-in-Data-clause-steps c = λ x r represents. c.after_data.ensures.steps x r c.args.limit c.args.byte (rw c.in-Data.is at represents)

pub returns-in-Data-clause-data : goal.returns-in-Data-clause-data
returns-in-Data-clause-data c = λ x r represents. rw c.in-Data.is (c.after_data.ensures.«data» (rw c.in-Data.is at represents).some)
