-- The canonical text of a tree: no white space, items and members in order, numbers as written. A
-- string has only the necessary escapes, each in its shortest form.
use Rattle.std.specs.Prelude.{◌≢◌, ◌≤◌, ℕ, ◌+◌, ◌/◌, ◌%◌, List, [], ◌∷◌, ◌++◌, if◌then◌else◌, ◌==◌, nat_lt}
use Rattle.mes_json.specs.Tree.{Tree, Items, Members}
use Rattle.mes_json.specs.Tree.Tree.{null, boolean, number, string, array, object}
use Rattle.mes_json.specs.Tree.Items.{no_items, item}
use Rattle.mes_json.specs.Tree.Members.{no_members, member}
use Rattle.mes_json.specs.Grammar.{null_text, boolean_text}

-- the HEXDIG of a value below 16, in lower case
abbrev pub hex_digit : ℕ → ℕ
hex_digit v = if nat_lt v 10 then 48 + v else 87 + v

-- the control character c as %x5C %x75 %x30 %x30 2HEXDIG
abbrev pub by_digits : ℕ → List ℕ
by_digits c = 92 ∷ 0x75 ∷ 0x30 ∷ 0x30 ∷ hex_digit (c / 16) ∷ hex_digit (c % 16) ∷ []

-- the byte c as written in a string: a two-byte escape, \u00 and two digits, or the byte unchanged
abbrev pub escaped : ℕ → List ℕ
escaped c =
    if c == 0x22 then 92 ∷ 0x22 ∷ []
    else if c == 0x5C then 92 ∷ 0x5C ∷ []
    else if c == 0x08 then 92 ∷ 0x62 ∷ []
    else if c == 0x0C then 92 ∷ 0x66 ∷ []
    else if c == 0x0A then 92 ∷ 0x6E ∷ []
    else if c == 0x0D then 92 ∷ 0x72 ∷ []
    else if c == 0x09 then 92 ∷ 0x74 ∷ []
    else if nat_lt c 0x20 then by_digits c
    else c ∷ []

abbrev pub escaped_text : List ℕ → List ℕ
escaped_text [] = []
escaped_text (c ∷ s) = escaped c ++ escaped_text s

-- c needs no escape: a byte of unescaped = %x20-21 / %x23-5B / %x5D-10FFFF, in UTF-8
abbrev pub IsKept : ℕ → Type 0
IsKept c = (32 ≤ c) × (c ≢ 34) × (c ≢ 92)

-- quotation-mark *char quotation-mark
abbrev pub quoted_text : List ℕ → List ℕ
quoted_text s = 34 ∷ (escaped_text s ++ 34 ∷ [])

abbrev mutual
  pub canonical : Tree → List ℕ
  canonical null = null_text
  canonical (boolean x) = boolean_text x
  canonical (number n) = n
  canonical (string s) = quoted_text s
  canonical (array ts) = 91 ∷ (canonical_items ts ++ 93 ∷ [])
  canonical (object ms) = 123 ∷ (canonical_members ms ++ 125 ∷ [])

  pub canonical_items : Items → List ℕ
  canonical_items no_items = []
  canonical_items (item t ts) = canonical t ++ more_items ts

  pub more_items : Items → List ℕ
  more_items no_items = []
  more_items (item t ts) = 44 ∷ (canonical t ++ more_items ts)

  pub canonical_members : Members → List ℕ
  canonical_members no_members = []
  canonical_members (member name t ms) = (quoted_text name ++ 58 ∷ canonical t) ++ more_members ms

  pub more_members : Members → List ℕ
  more_members no_members = []
  more_members (member name t ms) = 44 ∷ ((quoted_text name ++ 58 ∷ canonical t) ++ more_members ms)
