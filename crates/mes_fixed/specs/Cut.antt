-- The comparison of the remainder of a division with half of the divisor.
use Rattle.std.specs.Prelude.{◌≡◌, ℕ, ◌*◌, ◌<◌, ◌≤◌}
use Rattle.mes_fixed.specs.declared.digits.Cut.{Cut}
use Rattle.mes_fixed.specs.declared.digits.Cut.TheVariants.{Nothing, BelowHalf, HalfOrMore}

-- `Cut` says if the remainder of a division by w is zero, or below, equal to or above w / 2
abbrev pub CutIs : Cut → ℕ → ℕ → Type 0
CutIs Nothing rest w = rest ≡ 0
CutIs BelowHalf rest w = (0 < rest) × (2 * rest < w)
CutIs HalfOrMore rest w = w ≤ 2 * rest
