use Rattle.std.proofs.Common.{◌≡◌, ℕ, List, true, false, take}
use Rattle.mes_session_fit.specs.Fits.{in_items}
use Rattle.mes_session_fit.proofs.shared_pieces.items_meet.Given as goal

-- none of the items so far is among the other items
abbrev pub invariant-loop-item : goal.invariant-loop-item
invariant-loop-item l = (n : List ℕ) → in_items n (take l.item-index l.items) ≡ true → in_items n l.others ≡ false
