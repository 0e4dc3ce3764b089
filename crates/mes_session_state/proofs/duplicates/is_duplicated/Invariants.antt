use Rattle.std.proofs.Common.{◌≡◌, false, take}
use Rattle.mes_session_state.specs.Refusals.{is_duplicated}
use Rattle.mes_session_state.proofs.duplicates.is_duplicated.Given as goal

-- the identifiers so far have no duplicate
abbrev pub invariant-loop-index : goal.invariant-loop-index
invariant-loop-index l = is_duplicated (take l.index l.ids) ≡ false
