use Rattle.mes_model_schema.proofs.theorems.returned.Goals as goal

pub returns : goal.returns
returns g c = λ at value back. g.met.T.Part.lawful.complete at (g.T.Part.kind.tree value) value back
