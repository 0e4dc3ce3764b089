use Rattle.std.proofs.Common.{true, sym, ◌∙◌}
use Rattle.mes_session_fit.specs.Keys.{key_of}
use Rattle.mes_session_fit.specs.Fits.{has_piece, offered}
use Rattle.mes_session_fit.specs.Fits.Piece.{item as item_piece}
use Rattle.mes_session_fit.proofs.LookLemmas.{item-in, items-more}
use Rattle.mes_session_fit.proofs.unoffered_pieces.are_items_unoffered.Goals as goal

pub returns-then-not-offers_have_item : goal.returns-then-not-offers_have_item
returns-then-not-offers_have_item g c =
    (c.item-item.result, item-in c.args.items.now c.loop-item.item-index c.item-item.result c.loop-item-test.true c.item-item.is, sym c.offers_have_item.ensures ∙ c.if-not-offers_have_item.true)

pub loop-item-preserved : goal.loop-item-preserved
loop-item-preserved g c =
    items-more (λ n. has_piece (key_of c.args.key.now) (item_piece n) (offered (g.O.OfferList.offers c.args.offers.now))) true c.args.items.now c.loop-item.item-index c.item-item.result
    c.loop-item-test.true c.item-item.is c.loop-item.invariant (sym c.offers_have_item.ensures ∙ c.if-not-offers_have_item.false)
