use Rattle.std.proofs.Common.{sym, ap, ◌∙◌}
use Rattle.mes_json.specs.declared.tree_builder.Inner.TheVariants.{Object}
use Rattle.mes_json.proofs.BuildLemmas.{item_joins, member_joins}
use Rattle.mes_json.proofs.tree_builder.TreeBuilder.whole.Goals as goal

pub returns-in_ok-push-in-Array : goal.returns-in_ok-push-in-Array
returns-in_ok-push-in-Array c = item_joins c.args.self.now c.in-Array.items c.push.new.self c.args.json c.in-Array.is c.in_ok-push-in-Array.ensures.items

pub returns-in_ok-push-in-Some : goal.returns-in_ok-push-in-Some
returns-in_ok-push-in-Some c =
    member_joins c.args.self.now c.in-Object.members c.push-in-Some.new.self c.in-Some.name c.take.new.self c.args.json
    (c.in-Object.is ∙ ap (Object c.in-Object.members) (sym c.in-Some.ensures.value)) c.in-Some.ensures.after c.in_ok-push-in-Some.ensures.items
