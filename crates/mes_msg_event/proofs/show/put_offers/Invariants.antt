use Rattle.std.proofs.Common.{◌≡◌, ◌++◌, take}
use Rattle.std.specs.List.{flat_map}
use Rattle.mes_msg_event.specs.ShowLines.{offer_line}
use Rattle.mes_msg_event.proofs.show.put_offers.Given as goal

abbrev pub invariant-loop-offer : goal.invariant-loop-offer
invariant-loop-offer l = l.lines.items ≡ l.fn.lines.items ++ flat_map offer_line (take l.offer-index l.offers)
