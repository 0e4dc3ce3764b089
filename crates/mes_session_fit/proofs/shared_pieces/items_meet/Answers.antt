use Rattle.std.proofs.Common.{false, sym, ◌∙◌}
use Rattle.mes_session_fit.specs.Fits.{in_items}
use Rattle.mes_session_fit.proofs.LookLemmas.{item-in, items-more}
use Rattle.mes_session_fit.proofs.shared_pieces.items_meet.Goals as goal

pub returns-then-has_item : goal.returns-then-has_item
returns-then-has_item c =
    (c.item-item.result, item-in c.args.items.now c.loop-item.item-index c.item-item.result c.loop-item-test.true c.item-item.is, sym c.has_item.ensures ∙ c.if-has_item.true)

pub loop-item-preserved : goal.loop-item-preserved
loop-item-preserved c =
    items-more (λ n. in_items n c.args.others.now) false c.args.items.now c.loop-item.item-index c.item-item.result c.loop-item-test.true c.item-item.is c.loop-item.invariant
    (sym c.has_item.ensures ∙ c.if-has_item.false)
