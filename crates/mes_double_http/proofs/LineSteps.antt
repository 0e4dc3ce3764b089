-- The empty lines before a start line, skipped byte by byte.
use Rattle.std.proofs.Common.{◌≡◌, ℕ, ◌≤◌, List, length, drop}
use Rattle.mes_double_http.specs.Heads.{from_start_line}

-- the bytes before `start` are empty lines that precede the start line
pub record SkipsLines (text : List ℕ) (start : ℕ) : Type 0 where
  pub within : start ≤ length text
  pub same : from_start_line text ≡ from_start_line (drop start text)
