-- The outcomes of a write, as the counts of its device show them.
use Rattle.std.specs.Prelude.{◌≡◌, ℕ, ◌≤◌, min}
use Rattle.mes_frame.specs.Counts.{up}
use Rattle.mes_frame.specs.declared.counts.Counts.{Counts}
use Rattle.mes_frame.specs.declared.write.WriteFaultKind.{WriteFaultKind}
use Rattle.mes_frame.specs.declared.write.WriteFaultKind.TheVariants.{Device, Zero}

-- between the two counts, no call failed, and no call with bytes to write wrote nothing
abbrev pub NoneFails : Counts → Counts → Type 0
NoneFails old new = (new.failures ≡ old.failures) × (new.idle ≡ old.idle)

-- by the kind of the fault: exactly one call failed, or exactly one wrote nothing
abbrev pub StopsWrite : WriteFaultKind → Counts → Counts → Type 0
StopsWrite Device old new = (new.failures ≡ up old.failures 1) × (new.idle ≡ old.idle)
StopsWrite Zero old new = (new.failures ≡ old.failures) × (new.idle ≡ up old.idle 1)

-- at most n calls, and at least one if n > 0
abbrev pub CallsFor : ℕ → Counts → Counts → Type 0
CallsFor n old new = (up old.calls (min n 1) ≤ new.calls) × (new.calls ≤ up old.calls n)
