-- The digits written so far, then the digits of the remaining units, are the whole fraction.
use Rattle.std.proofs.Common.{◌≡◌, ◌+◌, ◌^◌, ◌<◌, ◌≤◌, ◌++◌, length}
use Rattle.mes_fixed.specs.Text.{fraction_text}
use Rattle.mes_fixed.proofs.fixed_point.push_fraction.Given as goal

abbrev pub invariant-loop-place : goal.invariant-loop-place
invariant-loop-place l =
    (l.text.bytes ++ fraction_text l.place l.rest ≡ l.initial.text.bytes ++ fraction_text l.places l.initial.rest)
    × (l.rest < 10 ^ l.place)
    × (length l.text.bytes + l.place ≤ 24)
