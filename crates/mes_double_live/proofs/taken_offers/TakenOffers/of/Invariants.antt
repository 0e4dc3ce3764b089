use Rattle.std.proofs.Common.{◌≡◌, map, take}
use Rattle.mes_double_master.specs.Masters.{named}
use Rattle.mes_double_live.proofs.taken_offers.TakenOffers.of.Given as goal

-- the named offers among those so far
abbrev pub invariant-loop-index : goal.invariant-loop-index
invariant-loop-index l = map (λ o. o.now) l.offers.items ≡ named l.ids (take l.index l.outstanding)
