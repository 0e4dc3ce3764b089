use Rattle.mes_model_schema.specs.Leaves.{text_of, texts}
use Rattle.mes_model_schema.proofs.RowLemmas.{refused_same}
use Rattle.mes_model_schema.proofs.text_and_bool.TextPart.read_from.Goals as goal

pub returns-in_err-text : goal.returns-in_err-text
unfolding texts
returns-in_err-text c = λ t b. refused_same (text_of c.args.path.now t) _ c.from_residual.result c.from_residual.ensures.1 (c.in_err-text.ensures t b)
