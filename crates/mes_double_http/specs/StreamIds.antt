-- The id of an event stream.
use Rattle.std.specs.Prelude.{ℕ, ◌≤◌, List, length, All}
use Rattle.mes_double_http.specs.declared.limits.TheConstants.{MAX_STREAM_ID}

-- VCHAR (RFC 5234, appendix B.1): a visible ASCII character
abbrev pub IsVisible : ℕ → Type 0
IsVisible b = (0x21 ≤ b) × (b ≤ 0x7e)

-- a valid stream id has 1 to 128 visible ASCII characters
abbrev pub IsStreamId : List ℕ → Type 0
IsStreamId text = (1 ≤ length text) × (length text ≤ MAX_STREAM_ID) × All IsVisible text
