use Rattle.std.proofs.Common.{[], ◌∷◌, ◌++◌, ap, ◌∙◌}
use Rattle.mes_json.specs.declared.tree_builder.Outer.{Outer}
use Rattle.mes_json.proofs.BuildLemmas.{array_again, object_again}
use Rattle.mes_json.proofs.tree_builder.TreeBuilder.close.Goals as goal

pub returns-in_ok-push-in-Some-Array : goal.returns-in_ok-push-in-Some-Array
returns-in_ok-push-in-Some-Array c =
    array_again c.args.self.now.outer.items c.pop.new.self.items c.in-Some-Array.items c.push.new.self c.args.json
    (c.in-Some-Array.ensures.items ∙ ap (λ (o : Outer). c.pop.new.self.items ++ o ∷ []) c.in-Some-Array.field-0-is) c.in_ok-push-in-Some-Array.ensures.items

pub returns-in_ok-push-in-Some-Object : goal.returns-in_ok-push-in-Some-Object
returns-in_ok-push-in-Some-Object c =
    object_again c.args.self.now.outer.items c.pop.new.self.items c.in-Some-Object.members c.push-in-Some-Object.new.self c.in-Some-Object.name c.args.json
    (c.in-Some-Object.ensures.items ∙ ap (λ (o : Outer). c.pop.new.self.items ++ o ∷ []) c.in-Some-Object.field-0-is) c.in_ok-push-in-Some-Object.ensures.items
