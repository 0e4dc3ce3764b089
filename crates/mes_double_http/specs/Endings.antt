-- How the reading of a head or a body ends, stated by the reader's counts of calls.
use Rattle.std.specs.Prelude.{◌≡◌, ℕ}
use Rattle.mes_frame.specs.Counts.{up}
use Rattle.mes_frame.specs.declared.counts.Counts.{Counts}

-- no call failed, and none returned the end of the input
abbrev pub AllGive : Counts → Counts → Type 0
AllGive old new = (new.failures ≡ old.failures) × (new.idle ≡ old.idle)

-- n calls were made; none failed, and none returned the end of the input
abbrev pub GaveEach : ℕ → Counts → Counts → Type 0
GaveEach n old new = (new.calls ≡ up old.calls n) × AllGive old new

-- exactly one call failed
abbrev pub OneFails : Counts → Counts → Type 0
OneFails old new = (new.failures ≡ up old.failures 1) × (new.idle ≡ old.idle)

-- exactly one call returned the end of the input
abbrev pub OneEnds : Counts → Counts → Type 0
OneEnds old new = (new.failures ≡ old.failures) × (new.idle ≡ up old.idle 1)
