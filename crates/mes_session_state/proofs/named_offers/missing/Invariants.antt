use Rattle.std.proofs.Common.{◌≡◌, false, take}
use Rattle.std.specs.List.{list_any}
use Rattle.mes_session_state.specs.Looking.{is_missing}
use Rattle.mes_session_state.proofs.named_offers.missing.Given as goal

-- no identifier so far is missing
abbrev pub invariant-loop-index : goal.invariant-loop-index
invariant-loop-index l = list_any (is_missing l.hand) (take l.index l.ids) ≡ false
