use Rattle.std.proofs.Common.{◌≡◌, take}
use Rattle.mes_session_fit.proofs.key.same_label_lists.Given as goal

-- the labels so far are equal
abbrev pub invariant-loop-at : goal.invariant-loop-at
invariant-loop-at l = take l.at l.labels ≡ take l.at l.others
