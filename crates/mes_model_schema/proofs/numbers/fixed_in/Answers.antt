use Rattle.mes_model_schema.specs.Leaves.{number_of}
use Rattle.mes_model_schema.specs.Numbers.{fixed}
use Rattle.mes_model_schema.proofs.RowLemmas.{refused_bound}
use Rattle.mes_model_schema.proofs.numbers.fixed_in.Goals as goal

pub returns-in_err-text : goal.returns-in_err-text
unfolding fixed
returns-in_err-text g c = λ t b. refused_bound (number_of c.args.path.now t) _ _ c.from_residual.result c.from_residual.ensures.1 (c.in_err-text.ensures t b)
