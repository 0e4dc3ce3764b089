use Rattle.std.proofs.Common.{sym, ◌∙◌, ap}
use Rattle.mes_json.specs.Cursor.{as_members}
use Rattle.mes_model_schema.proofs.LeafLemmas.{no_object}
use Rattle.mes_model_schema.proofs.kept.Kept.at_place.Goals as goal

pub returns-in-Ok-clause-ok : goal.returns-in-Ok-clause-ok
returns-in-Ok-clause-ok c = λ t b. sym (ap as_members (sym (c.in_ok-to_json.ensures t b) ∙ c.in-Ok.ensures.ok))

pub returns-clause-ok : goal.returns-clause-ok
returns-clause-ok c = λ t b. sym (no_object t (λ ms e. c.in-Err.ensures.err.1 ms (c.in_ok-to_json.ensures t b ∙ e)))
