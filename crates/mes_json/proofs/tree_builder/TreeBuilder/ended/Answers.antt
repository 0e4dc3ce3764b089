use Rattle.std.proofs.Common.{sym, ap, ◌∙◌}
use Rattle.mes_json.specs.declared.tree_builder.Inner.TheVariants.{Object}
use Rattle.mes_json.proofs.BuildLemmas.{array_ends, object_ends, on_ok}
use Rattle.mes_json.proofs.tree_builder.TreeBuilder.ended.Goals as goal

pub returns-in-Array : goal.returns-in-Array
returns-in-Array c =
    on_ok c.close.result _ _ (λ h. h ∙ array_ends c.args.self.now c.in-Array.items c.shrink_to_fit.new.self (sym c.in-Array.ensures.value) c.shrink_to_fit.ensures.items) c.close.ensures

pub returns-in-None : goal.returns-in-None
returns-in-None c =
    on_ok c.close-in-None.result _ _ (λ h. h ∙ object_ends c.args.self.now c.in-Object.members c.shrink_to_fit-in-None.new.self
    (sym c.in-Object.ensures.value ∙ ap (Object c.in-Object.members) c.in-None.is) c.shrink_to_fit-in-None.ensures.items) c.close-in-None.ensures
