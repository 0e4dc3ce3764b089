use Rattle.std.proofs.Common.{◌≡◌, take}
use Rattle.mes_session_fit.proofs.key.same_reservations.Given as goal

-- the reservations so far are equal
abbrev pub invariant-loop-at : goal.invariant-loop-at
invariant-loop-at l = take l.at l.reservations ≡ take l.at l.others
