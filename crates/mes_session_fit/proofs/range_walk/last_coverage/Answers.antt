use Rattle.std.proofs.Common.{◌<◌, length, arith}
use Rattle.mes_session_fit.specs.Keys.{key_of}
use Rattle.mes_session_fit.specs.Fits.{piece_of, has_piece, offered}
use Rattle.mes_session_fit.specs.Fits.Piece.{point}
use Rattle.mes_session_fit.proofs.ListLemmas.{get-of}
use Rattle.mes_session_fit.proofs.LookLemmas.{any-in, reaches-one, reaches-some}
use Rattle.mes_session_fit.proofs.range_walk.last_coverage.Goals as goal

pub returns-then-is_far : goal.returns-then-is_far
returns-then-is_far g c =
    let os = g.O.OfferList.offers c.args.offers.now in
    let k = key_of c.args.key.now in
    let within : c.loop-index.index < length os = omega (arith, c.loop-index-test.true, c.count.ensures, c.min-end.ensures) in
    reaches-some (λ x. has_piece k (point x) (offered os)) c.args.at c.resource_reach-end.result
    (reaches-one (λ x. has_piece k (point x) c.as_slice.result.now) (λ x. has_piece k (point x) (offered os)) c.args.at c.resource_reach-end.result c.is_far.result c.is_far.ensures c.if-is_far.true
    (λ x e. any-in (piece_of k (point x)) (λ o. o.resources) os c.loop-index.index c.get_index.result.now within (get-of os c.loop-index.index c.get_index.result.now c.get_index.ensures) _ c.as_slice.ensures e)
    c.resource_reach-end.ensures)
