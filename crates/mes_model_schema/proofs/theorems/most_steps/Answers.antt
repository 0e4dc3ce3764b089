use Rattle.mes_model_schema.proofs.theorems.most_steps.Goals as goal

pub returns-clause-within : goal.returns-clause-within
returns-clause-within g c = g.met.T.Part.lawful.within

pub returns-clause-reached : goal.returns-clause-reached
returns-clause-reached g c = g.met.T.Part.lawful.reached
