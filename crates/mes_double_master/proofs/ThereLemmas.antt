-- `all_there`, if at least one offer is named: each named offer is outstanding.
use Rattle.std.proofs.Common.{◌≡◌, Bool, true, false, List, [], ◌∷◌, length, ◌==◌, refl}
use Rattle.std.specs.List.{list_all}
use Rattle.mes_model.specs.Id.{Id}
use Rattle.mes_model.specs.Offer.{Offer}
use Rattle.mes_double_master.specs.Masters.{is_there, all_there}

pub some_named : (offers : List Offer) (ids : List Id) (b : Bool) → b ≡ (length ids == 0) → b ≡ false → list_all (is_there offers) ids ≡ all_there offers ids
some_named offers [] b h e = absurd (let t : b ≡ true = h in cc)
some_named offers (d ∷ ds) b h e = refl
