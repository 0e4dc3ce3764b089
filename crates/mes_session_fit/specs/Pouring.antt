-- The remaining amount of a key in the offers, while tasks take from it.
use Rattle.std.specs.Prelude.{ℕ, ◌+◌, List, [], ◌∷◌, ◌++◌, length, drop}
use Rattle.mes_model.specs.Resource.{Resource}
use Rattle.mes_model.specs.Offer.{Offer}
use Rattle.mes_session_fit.specs.Keys.{Key}
use Rattle.mes_session_fit.specs.Fits.{amount, offered}
use Rattle.mes_session_fit.specs.declared.supply.Supply.{Supply}

-- the resources of all offers, without the first `resource` resources of the first offer
abbrev pub from : ℕ → List Offer → List Resource
from resource [] = []
from resource (o ∷ os) = drop resource o.resources ++ offered os

-- the amount of key k that remains in the offers
abbrev pub rest : Key → List Offer → Supply → ℕ
rest k offers s = s.left + amount k (from s.resource (drop s.offer offers))

-- the number of offers and resources that are not yet visited
abbrev pub steps : List Offer → Supply → ℕ
steps offers s = length (from s.resource (drop s.offer offers)) + length (drop s.offer offers)
