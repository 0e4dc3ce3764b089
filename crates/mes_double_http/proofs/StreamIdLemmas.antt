-- A stream id is valid UTF-8.
use Rattle.std.proofs.Common.{ℕ, ◌<◌, List, length, get_or, All, inl, inr, IsUtf8, arith}
use Rattle.std.proofs.lemmas.Bool.{cases_lt}
use Rattle.std.proofs.lemmas.Str.{IsUtf8-from_ascii}
use Rattle.std.proofs.lemmas.Grind.{common_steps}
use Rattle.mes_double_http.specs.StreamIds.{IsVisible, IsStreamId}

pub visible-ascii : (text : List ℕ) → All IsVisible text → (i : ℕ) → get_or text i 0 < 128
visible-ascii text visible i = elim (cases_lt i (length text)) [
  | inl inside ↦ let v = visible i 0 inside in omega (arith, v.1)
  | inr outside ↦ grind (arith, common_steps)
]

pub no_id : (text : List ℕ) → (IsUtf8 text → ⊥) → IsStreamId text → ⊥
no_id text not_utf8 is = not_utf8 (IsUtf8-from_ascii text (visible-ascii text is.2))
