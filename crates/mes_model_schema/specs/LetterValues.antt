-- The letters of the base64 alphabet and their values (RFC 4648, table 1).
use Rattle.std.specs.Prelude.{◌≡◌, ℕ, ◌+◌, ◌-◌, ◌==◌, ◌<◌, nat_le, if◌then◌else◌, slice_index}
use Rattle.base64.specs.GeneralPurpose.{engine_symbols}
use Rattle.base64.specs.Engines.{standard}

-- the letter with this value
abbrev pub letter_of : ℕ → ℕ
letter_of v = slice_index (engine_symbols standard) v

-- the value of a letter
abbrev pub value_of : ℕ → ℕ
value_of c =
    if nat_le 97 c then c - 71
    else if nat_le 65 c then c - 65
    else if nat_le 48 c then c + 4
    else if c == 47 then 63
    else 62

-- the byte is a letter of the base64 alphabet
abbrev pub IsLetter : ℕ → Type 0
IsLetter c = (value_of c < 64) × (letter_of (value_of c) ≡ c)
