-- The grammar of a JSON text (RFC 8259 sections 2 to 8), with one definition for each production. A
-- definition relates bytes, the tree that they represent, and a limit of the nesting depth.
use Rattle.std.specs.Prelude.{◌≡◌, ◌≢◌, ℕ, zero, suc, ◌+◌, ◌-◌, ◌*◌, ◌≤◌, ◌⊎◌, Bool, true, false, List, [], ◌∷◌, ◌++◌, encode_utf8}
use Rattle.std.specs.List.{AllByRecursion}
use Rattle.std.specs.Char.{IsScalar}
use Rattle.mes_fixed.specs.Number.{IsNumber}
use Rattle.mes_json.specs.Tree.{Tree, Items, Members}
use Rattle.mes_json.specs.Tree.Tree.{null, boolean, number, string, array, object}
use Rattle.mes_json.specs.Tree.Items.{no_items, item}
use Rattle.mes_json.specs.Tree.Members.{no_members, member}

-- ws = *( %x20 / %x09 / %x0A / %x0D )
abbrev pub IsSpace : ℕ → Type 0
IsSpace c = (c ≡ 32) ⊎ (c ≡ 9) ⊎ (c ≡ 10) ⊎ (c ≡ 13)

abbrev pub IsSpaces : List ℕ → Type 0
IsSpaces b = AllByRecursion IsSpace b

-- null = %x6e.75.6c.6c
abbrev pub null_text : List ℕ
null_text = 0x6E ∷ 0x75 ∷ 0x6C ∷ 0x6C ∷ []

-- true = %x74.72.75.65
abbrev pub true_text : List ℕ
true_text = 0x74 ∷ 0x72 ∷ 0x75 ∷ 0x65 ∷ []

-- false = %x66.61.6c.73.65
abbrev pub false_text : List ℕ
false_text = 0x66 ∷ 0x61 ∷ 0x6C ∷ 0x73 ∷ 0x65 ∷ []

abbrev pub boolean_text : Bool → List ℕ
boolean_text true = true_text
boolean_text false = false_text

-- c is a HEXDIG with the value v: DIGIT, or "A" to "F" in either case (RFC 5234)
abbrev pub IsHex : ℕ → ℕ → Type 0
IsHex c v =
    ((48 ≤ c) × (c ≤ 57) × (c ≡ v + 48)) ⊎ ((65 ≤ c) × (c ≤ 70) × (c ≡ v + 55)) ⊎ ((97 ≤ c) × (c ≤ 102) × (c ≡ v + 87))

-- 4HEXDIG with the value v
pub record IsHex4 (b : List ℕ) (v : ℕ) : Type 0 where
  pub c0 : ℕ
  pub c1 : ℕ
  pub c2 : ℕ
  pub c3 : ℕ
  pub v0 : ℕ
  pub v1 : ℕ
  pub v2 : ℕ
  pub v3 : ℕ
  pub is : b ≡ c0 ∷ c1 ∷ c2 ∷ c3 ∷ []
  pub d0 : IsHex c0 v0
  pub d1 : IsHex c1 v1
  pub d2 : IsHex c2 v2
  pub d3 : IsHex c3 v3
  pub value : v ≡ v0 * 4096 + v1 * 256 + v2 * 16 + v3

-- the letter after escape = %x5C, and the character that it represents: " \ / b f n r t
pub data IsShort : ℕ → ℕ → Type 0 where
  quotation_mark : IsShort 0x22 0x22
  reverse_solidus : IsShort 0x5C 0x5C
  solidus : IsShort 0x2F 0x2F
  backspace : IsShort 0x62 0x08
  form_feed : IsShort 0x66 0x0C
  line_feed : IsShort 0x6E 0x0A
  carriage_return : IsShort 0x72 0x0D
  tab : IsShort 0x74 0x09

-- char = unescaped / escape ( short / %x75 4HEXDIG ), with the character's code
-- unescaped = %x20-21 / %x23-5B / %x5D-10FFFF, as well-formed UTF-8 (section 8.1)
-- A character above FFFF is escaped as a surrogate pair (section 7); no lone surrogate is a char.
pub data IsChar : List ℕ → ℕ → Type 0 where
  unescaped : {b : List ℕ} {c : ℕ} → IsScalar c → 32 ≤ c → c ≢ 34 → c ≢ 92 → b ≡ encode_utf8 c → IsChar b c
  short : {b : List ℕ} {c : ℕ} → (letter : ℕ) → IsShort letter c → b ≡ 92 ∷ letter ∷ [] → IsChar b c
  escaped : {b : List ℕ} {c : ℕ} → (digits : List ℕ) → IsHex4 digits c → IsScalar c → b ≡ 92 ∷ 117 ∷ digits → IsChar b c
  pair : {b : List ℕ} {c : ℕ} → (first second : List ℕ) → (high low : ℕ) → IsHex4 first high → IsHex4 second low
      → 0xD800 ≤ high → high ≤ 0xDBFF → 0xDC00 ≤ low → low ≤ 0xDFFF
      → c ≡ 0x10000 + (high - 0xD800) * 0x400 + (low - 0xDC00) → b ≡ 92 ∷ 117 ∷ (first ++ 92 ∷ 117 ∷ second) → IsChar b c

-- *char, and the characters that they represent, in UTF-8
pub data IsChars : List ℕ → List ℕ → Type 0 where
  none : {b s : List ℕ} → b ≡ [] → s ≡ [] → IsChars b s
  some : {b s : List ℕ} → (first rest : List ℕ) → (c : ℕ) → (others : List ℕ) → IsChar first c → IsChars rest others
      → b ≡ first ++ rest → s ≡ encode_utf8 c ++ others → IsChars b s

-- string = quotation-mark *char quotation-mark; s is the decoded string
pub record IsString (s : List ℕ) (b : List ℕ) : Type 0 where
  pub inside : List ℕ
  pub is : b ≡ 34 ∷ (inside ++ 34 ∷ [])
  pub chars : IsChars inside s

-- ws It ws: bytes of the form `It`, with white space around them
pub record Spaced (It : List ℕ → Type 0) (b : List ℕ) : Type 0 where
  pub before : List ℕ
  pub inside : List ℕ
  pub after : List ℕ
  pub is : b ≡ before ++ (inside ++ after)
  pub spaces_before : IsSpaces before
  pub has : It inside
  pub spaces_after : IsSpaces after

-- member = string name-separator value, name-separator = ws %x3A ws
pub record IsMember (name_is : List ℕ → Type 0) (value_is : List ℕ → Type 0) (b : List ℕ) : Type 0 where
  pub name : List ℕ
  pub value : List ℕ
  pub is : b ≡ name ++ (58 ∷ value)
  pub is_name : Spaced name_is name
  pub is_value : Spaced value_is value

-- First Rest: bytes of the form `First`, then bytes of the form `Rest`
pub record Then (First Rest : List ℕ → Type 0) (b : List ℕ) : Type 0 where
  pub first : List ℕ
  pub rest : List ℕ
  pub is : b ≡ first ++ rest
  pub is_first : First first
  pub is_rest : Rest rest

-- the byte c, then bytes of the form `Rest`
abbrev pub Led : ℕ → (List ℕ → Type 0) → List ℕ → Type 0
Led c Rest b = (rest : List ℕ) × (b ≡ c ∷ rest) × Rest rest

-- the byte `first`, bytes of the form `Inside`, and the byte `last`
abbrev pub Enclosed : ℕ → (List ℕ → Type 0) → ℕ → List ℕ → Type 0
Enclosed first Inside last b = (inside : List ℕ) × (b ≡ first ∷ (inside ++ last ∷ [])) × Inside inside

-- value = false / null / true / object / array / number / string, with at most d levels of nesting
-- array = begin-array [ value *( value-separator value ) ] end-array
-- object = begin-object [ member *( value-separator member ) ] end-object
abbrev mutual
  pub IsValue : Tree → ℕ → List ℕ → Type 0
  IsValue null d b = b ≡ null_text
  IsValue (boolean x) d b = b ≡ boolean_text x
  IsValue (number n) d b = (b ≡ n) × IsNumber n
  IsValue (string s) d b = IsString s b
  IsValue (array ts) zero b = ⊥
  IsValue (array ts) (suc d) b = Enclosed 91 (AreItems ts d) 93 b
  IsValue (object ms) zero b = ⊥
  IsValue (object ms) (suc d) b = Enclosed 123 (AreMembers ms d) 125 b

  pub AreItems : Items → ℕ → List ℕ → Type 0
  AreItems no_items d b = IsSpaces b
  AreItems (item t ts) d b = Then (Spaced (IsValue t d)) (MoreItems ts d) b

  pub MoreItems : Items → ℕ → List ℕ → Type 0
  MoreItems no_items d b = b ≡ []
  MoreItems (item t ts) d b = Led 44 (Then (Spaced (IsValue t d)) (MoreItems ts d)) b

  pub AreMembers : Members → ℕ → List ℕ → Type 0
  AreMembers no_members d b = IsSpaces b
  AreMembers (member name t ms) d b = Then (IsMember (IsString name) (IsValue t d)) (MoreMembers ms d) b

  pub MoreMembers : Members → ℕ → List ℕ → Type 0
  MoreMembers no_members d b = b ≡ []
  MoreMembers (member name t ms) d b =
      Led 44 (Then (IsMember (IsString name) (IsValue t d)) (MoreMembers ms d)) b

-- JSON-text = ws value ws, with at most d levels of nesting
abbrev pub IsText : ℕ → List ℕ → Tree → Type 0
IsText d b t = Spaced (IsValue t d) b
