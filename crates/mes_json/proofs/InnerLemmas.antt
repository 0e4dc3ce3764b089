-- The number of bytes inside strings and numbers.
use Rattle.std.proofs.Common.{ℕ, ◌≤◌, Bool, true, false, if◌then◌else◌, ◌==◌, List, [], ◌∷◌, ◌++◌, length, arith}
use Rattle.mes_json.specs.Inner.{Stand, is_of_number, following, counts, inner_from, inner}
use Rattle.mes_json.specs.Inner.Stand.{outside, inside, escaped}

from_grows : (place : Stand) (p q : List ℕ) → inner_from place p ≤ inner_from place (p ++ q)
from_grows place [] q = omega arith
from_grows place (c ∷ p) q =
    let more : inner_from (following place c) p ≤ inner_from (following place c) (p ++ q) = from_grows (following place c) p q in omega arith

pub inner_grows : (p q : List ℕ) → inner p ≤ inner (p ++ q)
inner_grows p q = from_grows outside p q

one_at_most : (b : Bool) → (if b then 1 else 0) ≤ 1
one_at_most true = omega arith
one_at_most false = omega arith

one_but : (b : Bool) → (if b then 0 else 1) ≤ 1
one_but true = omega arith
one_but false = omega arith

counts_one : (place : Stand) (c : ℕ) → counts place c ≤ 1
counts_one outside c = one_at_most (is_of_number c)
counts_one inside c = one_but (c == 34)
counts_one escaped c = omega arith

from_within : (place : Stand) (p : List ℕ) → inner_from place p ≤ length p
from_within place [] = omega arith
from_within place (c ∷ p) =
    let one = counts_one place c in
    let rest : inner_from (following place c) p ≤ length p = from_within (following place c) p in omega (arith, one, rest)

pub inner_within : (p : List ℕ) → inner p ≤ length p
inner_within p = from_within outside p
