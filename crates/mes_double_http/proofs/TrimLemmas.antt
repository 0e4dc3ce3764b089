-- White space skipped byte by byte, from either end.
use Rattle.std.proofs.Common.{◌≡◌, ℕ, ◌≤◌, List, length, take, drop, reverse}
use Rattle.httparse.specs.Grammar.{skip_ows}

-- the bytes of the text before `start` are white space
pub record SkipsFront (text : List ℕ) (start : ℕ) : Type 0 where
  pub within : start ≤ length text
  pub same : skip_ows text ≡ skip_ows (drop start text)

-- the bytes of the text from `end` on are white space
pub record SkipsBack (text : List ℕ) (end : ℕ) : Type 0 where
  pub within : end ≤ length text
  pub same : skip_ows (reverse text) ≡ skip_ows (reverse (take end text))
