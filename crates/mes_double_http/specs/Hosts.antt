-- The host of a client's calls.
use Rattle.std.specs.Prelude.{ℕ, ◌≤◌, List, length, All}
use Rattle.mes_double_http.specs.StreamIds.{IsVisible}
use Rattle.mes_double_http.specs.declared.limits.TheConstants.{MAX_HOST}

-- a valid host has 1 to 255 visible ASCII characters
abbrev pub IsHost : List ℕ → Type 0
IsHost text = (1 ≤ length text) × (length text ≤ MAX_HOST) × All IsVisible text
