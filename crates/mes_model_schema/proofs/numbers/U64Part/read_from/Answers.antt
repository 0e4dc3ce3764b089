use Rattle.mes_model_schema.specs.Leaves.{number_of}
use Rattle.mes_model_schema.specs.Numbers.{whole}
use Rattle.mes_model_schema.proofs.RowLemmas.{refused_bound}
use Rattle.mes_model_schema.proofs.numbers.U64Part.read_from.Goals as goal

pub returns-in_err-text : goal.returns-in_err-text
unfolding whole
returns-in_err-text c = λ t b. refused_bound (number_of c.args.path.now t) _ _ c.from_residual.result c.from_residual.ensures.1 (c.in_err-text.ensures t b)
