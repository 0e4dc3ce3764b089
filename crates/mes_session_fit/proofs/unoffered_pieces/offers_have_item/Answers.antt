use Rattle.std.proofs.Common.{◌<◌, length, sym, ◌∙◌, arith}
use Rattle.mes_session_fit.specs.Keys.{key_of}
use Rattle.mes_session_fit.specs.Fits.{piece_of}
use Rattle.mes_session_fit.specs.Fits.Piece.{item as item_piece}
use Rattle.mes_session_fit.proofs.ListLemmas.{get-of}
use Rattle.mes_session_fit.proofs.LookLemmas.{any-in, none-more}
use Rattle.mes_session_fit.proofs.unoffered_pieces.offers_have_item.Goals as goal

pub returns-then-resources_have_item : goal.returns-then-resources_have_item
returns-then-resources_have_item g c =
    let os = g.O.OfferList.offers c.args.offers.now in
    let within : c.loop-index.index < length os = omega (arith, c.loop-index-test.true, c.count-index-end.ensures) in
    sym (any-in (piece_of (key_of c.args.key.now) (item_piece c.args.item.now)) (λ o. o.resources) os c.loop-index.index c.get_index.result.now within (get-of os c.loop-index.index c.get_index.result.now c.get_index.ensures)
    _ c.as_slice.ensures (sym c.resources_have_item.ensures ∙ c.if-resources_have_item.true))

pub loop-index-preserved : goal.loop-index-preserved
loop-index-preserved g c =
    let os = g.O.OfferList.offers c.args.offers.now in
    let within : c.loop-index.index < length os = omega (arith, c.loop-index-test.true, c.count-index-end.ensures) in
    none-more (piece_of (key_of c.args.key.now) (item_piece c.args.item.now)) (λ o. o.resources) os c.loop-index.index c.get_index.result.now within (get-of os c.loop-index.index c.get_index.result.now c.get_index.ensures)
    _ c.as_slice.ensures c.loop-index.invariant (sym c.resources_have_item.ensures ∙ c.if-resources_have_item.false)
