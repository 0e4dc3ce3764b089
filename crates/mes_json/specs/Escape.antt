-- The states within an escape (RFC 8259 section 7), and the effect of each byte. Cited by private
-- clauses only.
use Rattle.std.specs.Prelude.{ℕ, List, [], ◌∷◌, ◌+◌, ◌-◌, ◌*◌, ◌<◌, ◌≤◌, ◌⊎◌, ◌&&◌, Option, Some, None, if◌then◌else◌, ◌==◌, nat_le}

-- the bytes of the escape so far: \, then u and digits with their value; from `high` on, the escape
-- of a high surrogate came first
pub data Escape : Type 0 where
  backslash : Escape
  unit0 : Escape
  unit1 unit2 unit3 : ℕ → Escape
  high high_backslash low0 low1 : ℕ → Escape
  low2 low3 : ℕ → ℕ → Escape

-- the effect of a byte: the escape continues, ends, or is an error
pub data Move : Type 0 where
  on : Escape → Move
  makes : ℕ → Move
  refused : Move

abbrev pub hex_of : ℕ → Option ℕ
hex_of c =
    if nat_le 48 c && nat_le c 57 then Some (c - 48)
    else if nat_le 65 c && nat_le c 70 then Some (c - 55)
    else if nat_le 97 c && nat_le c 102 then Some (c - 87)
    else None

abbrev pub by_hex : Option ℕ → (ℕ → Move) → Move
by_hex None f = refused
by_hex (Some x) f = f x

abbrev pub short_of : ℕ → Move
short_of c =
    if c == 0x22 then makes 0x22
    else if c == 0x5C then makes 0x5C
    else if c == 0x2F then makes 0x2F
    else if c == 0x62 then makes 0x08
    else if c == 0x66 then makes 0x0C
    else if c == 0x6E then makes 0x0A
    else if c == 0x72 then makes 0x0D
    else if c == 0x74 then makes 0x09
    else refused

-- the effect of the second digit; a low surrogate cannot come first
abbrev pub two_digits : ℕ → Move
two_digits v = if nat_le 0xDC v && nat_le v 0xDF then refused else on (unit2 v)

-- the effect of the fourth digit
abbrev pub four_digits : ℕ → Move
four_digits v = if nat_le 0xD800 v && nat_le v 0xDBFF then on (high v) else makes v

abbrev pub pair_of : ℕ → ℕ → ℕ
pair_of first second = 0x10000 + (first - 0xD800) * 0x400 + (second - 0xDC00)

abbrev pub escape_step : Escape → ℕ → Move
escape_step backslash c = if c == 117 then on unit0 else short_of c
escape_step unit0 c = by_hex (hex_of c) (λ x. on (unit1 x))
escape_step (unit1 v) c = by_hex (hex_of c) (λ x. two_digits (v * 16 + x))
escape_step (unit2 v) c = by_hex (hex_of c) (λ x. on (unit3 (v * 16 + x)))
escape_step (unit3 v) c = by_hex (hex_of c) (λ x. four_digits (v * 16 + x))
escape_step (high h) c = if c == 92 then on (high_backslash h) else refused
escape_step (high_backslash h) c = if c == 117 then on (low0 h) else refused
escape_step (low0 h) c = by_hex (hex_of c) (λ x. if x == 13 then on (low1 h) else refused)
escape_step (low1 h) c = by_hex (hex_of c) (λ x. if nat_le 12 x then on (low2 h (13 * 16 + x)) else refused)
escape_step (low2 h v) c = by_hex (hex_of c) (λ x. on (low3 h (v * 16 + x)))
escape_step (low3 h v) c = by_hex (hex_of c) (λ x. makes (pair_of h (v * 16 + x)))

-- the value in each state of an escape is within the state's bounds
abbrev pub HasBounds : Escape → Type 0
HasBounds backslash = Unit {0}
HasBounds unit0 = Unit {0}
HasBounds (unit1 v) = v < 16
HasBounds (unit2 v) = (v < 0xDC) ⊎ ((0xE0 ≤ v) × (v < 256))
HasBounds (unit3 v) = (v < 0xDC0) ⊎ ((0xE00 ≤ v) × (v < 4096))
HasBounds (high h) = (0xD800 ≤ h) × (h ≤ 0xDBFF)
HasBounds (high_backslash h) = (0xD800 ≤ h) × (h ≤ 0xDBFF)
HasBounds (low0 h) = (0xD800 ≤ h) × (h ≤ 0xDBFF)
HasBounds (low1 h) = (0xD800 ≤ h) × (h ≤ 0xDBFF)
HasBounds (low2 h v) = (0xD800 ≤ h) × (h ≤ 0xDBFF) × (0xDC ≤ v) × (v ≤ 0xDF)
HasBounds (low3 h v) = (0xD800 ≤ h) × (h ≤ 0xDBFF) × (0xDC0 ≤ v) × (v ≤ 0xDFF)

-- the character of an escape that ends with the last of the bytes after the given move
abbrev pub made_of : Move → List ℕ → Option ℕ
made_of (on e) [] = None
made_of (on e) (c ∷ q) = made_of (escape_step e c) q
made_of (makes v) [] = Some v
made_of (makes v) (c ∷ q) = None
made_of refused q = None
