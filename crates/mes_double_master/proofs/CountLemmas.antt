-- The number of offers that a call takes.
use Rattle.std.proofs.Common.{◌≡◌, ◌+◌, ◌-◌, List, length, not, refl, arith}
use Rattle.std.proofs.lemmas.List.Filters.{length-filter_both}
use Rattle.mes_model.specs.Id.{Id}
use Rattle.mes_model.specs.Offer.{Offer}
use Rattle.mes_session_state.specs.Held.{names, without_offers}
use Rattle.mes_double_master.specs.Masters.{named}

-- the taken offers are those that were outstanding and are not any more
pub counted_taken : (ids : List Id) (offers : List Offer) → length offers - length (without_offers ids offers) ≡ length (named ids offers)
counted_taken ids offers =
    let both : length (named ids offers) + length (without_offers ids offers) ≡ length offers = length-filter_both (names ids) (λ (o : Offer). not (names ids o)) (λ o. refl) offers in
    omega arith
