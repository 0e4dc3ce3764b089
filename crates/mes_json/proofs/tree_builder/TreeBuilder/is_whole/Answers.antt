use Rattle.std.proofs.Common.{ap}
use Rattle.mes_json.specs.View.{view}
use Rattle.mes_json.specs.Build.{frames_view, inner_view}
use Rattle.mes_json.proofs.tree_builder.TreeBuilder.is_whole.Goals as goal

pub returns-in-Whole : goal.returns-in-Whole
returns-in-Whole c _ = (view c.in-Whole.field-0, ap (inner_view (frames_view c.args.self.now.outer.items)) c.in-Whole.is)
