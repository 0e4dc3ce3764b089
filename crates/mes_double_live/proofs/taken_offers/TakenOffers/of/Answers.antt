use Rattle.std.proofs.Common.{◌≡◌, ◌∷◌, [], true, false, sym, ◌∙◌}
use Rattle.std.proofs.lemmas.List.{map-append}
use Rattle.mes_session_state.specs.Held.{names}
use Rattle.mes_double_live.proofs.TakenLemmas.{named-next, other-next}
use Rattle.mes_double_live.proofs.taken_offers.TakenOffers.of.Goals as goal
use Rattle.mes_double_live.proofs.taken_offers.TakenOffers.of.Goals.{then-contains+in_ok-push, else-contains}

pub loop-index-preserved : goal.loop-index-preserved
loop-index-preserved c =
    let ids = c.args.ids.now in
    let os = c.args.outstanding.now in
    let i = c.loop-index.index in
    let o = c.in-Some.offer.now in
    elim c.if-contains.branch [
      | then-contains+in_ok-push w ↦
          let is : names ids o ≡ true = sym c.contains.ensures.value ∙ w.if-contains.true in
          let more = map-append (λ p. p.now) c.loop-index.offers.items (c.in-Some.offer ∷ []) in
          let all = named-next ids os i o c.in-Some.ensures is in
          cc (w.offers-is, w.in_ok-push.ensures.items, more, all, c.loop-index.invariant)
      | else-contains w ↦
          let is : names ids o ≡ false = sym c.contains.ensures.value ∙ w.if-contains.false in
          let all = other-next ids os i o c.in-Some.ensures is in
          cc (w.offers-is, all, c.loop-index.invariant)
    ]
