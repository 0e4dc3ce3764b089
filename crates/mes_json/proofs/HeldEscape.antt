-- The form, by the grammar, of the bytes of an unfinished escape.
use Rattle.std.proofs.Common.{◌≡◌, ℕ, ◌+◌, ◌*◌, ◌<◌, ◌≤◌, ◌⊎◌, List, [], ◌∷◌, ◌++◌}
use Rattle.mes_json.specs.Grammar.{IsHex, IsHex4}
use Rattle.mes_json.specs.Escape.{Escape}
use Rattle.mes_json.specs.Escape.Escape.{backslash, unit0, unit1, unit2, unit3, high, high_backslash, low0, low1, low2, low3}

-- `part` is `front` and then one hexadecimal digit with the value v
pub record Digits1 (front part : List ℕ) (v : ℕ) : Type 0 where
  pub c0 : ℕ
  pub is : part ≡ front ++ c0 ∷ []
  pub d0 : IsHex c0 v

pub record Digits2 (front part : List ℕ) (v : ℕ) : Type 0 where
  pub c0 : ℕ
  pub c1 : ℕ
  pub v0 : ℕ
  pub v1 : ℕ
  pub is : part ≡ front ++ c0 ∷ c1 ∷ []
  pub d0 : IsHex c0 v0
  pub d1 : IsHex c1 v1
  pub value : v ≡ v0 * 16 + v1

pub record Digits3 (front part : List ℕ) (v : ℕ) : Type 0 where
  pub c0 : ℕ
  pub c1 : ℕ
  pub c2 : ℕ
  pub v0 : ℕ
  pub v1 : ℕ
  pub v2 : ℕ
  pub is : part ≡ front ++ c0 ∷ c1 ∷ c2 ∷ []
  pub d0 : IsHex c0 v0
  pub d1 : IsHex c1 v1
  pub d2 : IsHex c2 v2
  pub value : v ≡ v0 * 256 + v1 * 16 + v2

pub record IsHighUnit (h : ℕ) (part : List ℕ) : Type 0 where
  pub digits : List ℕ
  pub is : part ≡ 92 ∷ 117 ∷ digits
  pub hex : IsHex4 digits h
  pub least : 0xD800 ≤ h
  pub most : h ≤ 0xDBFF

abbrev pub InEscape : Escape → List ℕ → Type 0
InEscape backslash part = part ≡ 92 ∷ []
InEscape unit0 part = part ≡ 92 ∷ 117 ∷ []
InEscape (unit1 v) part = Digits1 (92 ∷ 117 ∷ []) part v
InEscape (unit2 v) part = Digits2 (92 ∷ 117 ∷ []) part v × ((v < 0xDC) ⊎ (0xE0 ≤ v))
InEscape (unit3 v) part = Digits3 (92 ∷ 117 ∷ []) part v × ((v < 0xDC0) ⊎ (0xE00 ≤ v))
InEscape (high h) part = IsHighUnit h part
InEscape (high_backslash h) part = (x : List ℕ) × (part ≡ x ++ 92 ∷ []) × IsHighUnit h x
InEscape (low0 h) part = (x : List ℕ) × (part ≡ x ++ 92 ∷ 117 ∷ []) × IsHighUnit h x
InEscape (low1 h) part = (x : List ℕ) × IsHighUnit h x × Digits1 (x ++ 92 ∷ 117 ∷ []) part 13
InEscape (low2 h v) part = (x : List ℕ) × IsHighUnit h x × Digits2 (x ++ 92 ∷ 117 ∷ []) part v × (0xDC ≤ v) × (v ≤ 0xDF)
InEscape (low3 h v) part = (x : List ℕ) × IsHighUnit h x × Digits3 (x ++ 92 ∷ 117 ∷ []) part v × (0xDC0 ≤ v) × (v ≤ 0xDFF)
