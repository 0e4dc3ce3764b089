use Rattle.mes_frame.proofs.record.after_size.Goals as goal

pub returns-in-48-to-57-clause-steps : goal.returns-in-48-to-57-clause-steps
returns-in-48-to-57-clause-steps c = λ x r kept. c.after_digit.ensures.steps x r c.args.limit kept
