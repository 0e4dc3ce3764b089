use Rattle.std.proofs.Common.{◌∙◌}
use Rattle.mes_json.proofs.tape.spell.Spelling.into_tape.Goals as goal

pub new-requires-clause-spans : goal.new-requires-clause-spans
new-requires-clause-spans c = c.take-nodes.ensures.spans c.self.inside.texts.items c.self.invariant

pub returns : goal.returns
returns c = c.new.ensures ∙ c.take-nodes.ensures.held c.self.inside.texts.items ∙ c.self.view_is
