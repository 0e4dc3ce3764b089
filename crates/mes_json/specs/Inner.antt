-- The number of bytes inside the strings and numbers of a text, from one pass over the bytes.
use Rattle.std.specs.Prelude.{ℕ, ◌+◌, Bool, List, [], ◌∷◌, ◌&&◌, ◌||◌, if◌then◌else◌, ◌==◌, nat_le}

-- the position of a byte: outside strings, inside a string, or after a backslash inside a string
pub data Stand : Type 0 where
  outside inside escaped : Stand

-- a digit, or one of + - . e E
abbrev pub is_of_number : ℕ → Bool
is_of_number c = (nat_le 48 c && nat_le c 57) || c == 43 || c == 45 || c == 46 || c == 101 || c == 69

-- the position of the next byte; an unescaped quotation mark begins or ends a string
abbrev pub following : Stand → ℕ → Stand
following outside c = if c == 34 then inside else outside
following inside c = if c == 34 then outside else (if c == 92 then escaped else inside)
following escaped c = inside

-- 1 for a byte of a number, and for a byte inside a string except its closing quotation mark
abbrev pub counts : Stand → ℕ → ℕ
counts outside c = if is_of_number c then 1 else 0
counts inside c = if c == 34 then 0 else 1
counts escaped c = 1

-- the number of bytes that `counts` counts, if the first byte is at the given position
abbrev pub inner_from : Stand → List ℕ → ℕ
inner_from place [] = 0
inner_from place (c ∷ p) = counts place c + inner_from (following place c) p

-- the number of bytes inside strings, and of bytes of numbers outside them
abbrev pub inner : List ℕ → ℕ
inner p = inner_from outside p
