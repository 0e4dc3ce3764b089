-- The number of line feeds of consecutive bytes.
use Rattle.std.proofs.Common.{◌≡◌, ℕ, ◌+◌, List, [], ◌∷◌, ◌++◌, ◌∙◌, ap, refl, arith}
use Rattle.std.proofs.lemmas.Bool.{ne_eqb}
use Rattle.std.proofs.lemmas.List.Sums.{sum_by-append, sum_by-cons}
use Rattle.mes_stream.specs.LineRecord.{IsLine, line_feeds_in}
use Rattle.mes_stream.proofs.LineRecords.{back_line}

pub line_feeds-append : (xs ys : List ℕ) → line_feeds_in (xs ++ ys) ≡ line_feeds_in xs + line_feeds_in ys
line_feeds-append xs ys = sum_by-append _ xs ys

-- a line has no line feed
no_line_feed : (line : List ℕ) → IsLine line → line_feeds_in line ≡ 0
no_line_feed [] is = refl
no_line_feed (c ∷ line) is = sum_by-cons _ c line ∙ rw (ne_eqb c 10 is.0) (ap (λ (n : ℕ). 0 + n) (no_line_feed line is.1))

-- bytes that belong to a line add no line feed
pub line_feeds_on : (b x p : List ℕ) → IsLine (x ++ p) → line_feeds_in (b ++ p) ≡ line_feeds_in b
line_feeds_on b x p is = let none = no_line_feed p (back_line x p is) in let all = line_feeds-append b p in omega (arith, none, all)

-- a LF adds one
pub line_feeds_ended : (b : List ℕ) → line_feeds_in (b ++ 10 ∷ []) ≡ line_feeds_in b + 1
line_feeds_ended b = line_feeds-append b (10 ∷ [])
