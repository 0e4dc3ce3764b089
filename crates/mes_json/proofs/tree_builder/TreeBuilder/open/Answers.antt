use Rattle.std.proofs.Common.{sym}
use Rattle.mes_json.proofs.BuildLemmas.{array_around}
use Rattle.mes_json.proofs.tree_builder.TreeBuilder.open.Goals as goal

pub returns-in_ok-push-in-Array : goal.returns-in_ok-push-in-Array
returns-in_ok-push-in-Array c =
    λ a opens. array_around c.args.self.now c.push.new.self.items c.in-Array.items c.args.opened c.replace.new.dest a (sym c.in-Array.ensures.value)
    c.in_ok-push-in-Array.ensures.items c.in-Array.ensures.after opens
