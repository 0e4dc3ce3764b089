-- The body of OFFERS: an object with the array of offers as the member `offers`, or the array
-- alone. It is written as the object.
use Rattle.std.specs.Prelude.{List, codes}
use Rattle.mes_model_schema.specs.Kinds.{Kind, Lawful, Returns}
use Rattle.mes_model_schema.specs.Rows.{ReturnsEach}
use Rattle.mes_model_schema.specs.EitherLists.{either_list}
use Rattle.mes_model_schema.specs.EitherListLaws.{lawful_either_list, either_list_back}
use Rattle.mes_model_offer.specs.Offers.{offer, lawful_offer}
use Rattle.mes_model_offer.specs.declared.offer.Offer.{Offer}

-- the kind of OFFERS bodies
unfoldable pub offers : Kind (List Offer)
offers = either_list (codes "offers") offer

-- ---- the laws of the kind of OFFERS bodies

pub lawful_offers : Lawful offers 10
unfolding offers
lawful_offers = lawful_either_list lawful_offer

pub offers_back : (v : List Offer) → ReturnsEach offer v → Returns offers v
unfolding offers
offers_back v back = either_list_back lawful_offer v back
