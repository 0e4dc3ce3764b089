use Rattle.std.proofs.Common.{ap, ◌∙◌}
use Rattle.mes_json.specs.declared.tree_builder.Inner.TheVariants.{Object}
use Rattle.mes_json.proofs.BuildLemmas.{name_follows}
use Rattle.mes_json.proofs.tree_builder.TreeBuilder.named.Goals as goal

pub returns-in-None : goal.returns-in-None
returns-in-None c = name_follows c.args.self.now c.in-Object.field-0 c.args.name (c.in-Object.is ∙ ap (Object c.in-Object.field-0) c.in-None.is)
