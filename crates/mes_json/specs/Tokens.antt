-- A tree as a list of tokens (RFC 8259 section 2). Each literal, number, string and name has one,
-- and arrays and objects have two; commas and colons have none. A tape has these tokens in order.
use Rattle.std.specs.Prelude.{◌≡◌, ℕ, Bool, true, false, List, [], ◌∷◌, ◌++◌, cond, ◌==◌, refl}
use Rattle.std.specs.Coded.{Coded, code_by, coded×, coded_ℕ, coded_list}
use Rattle.mes_json.specs.Tree.{Tree, Items, Members}
use Rattle.mes_json.specs.Tree.Items.{no_items, item}
use Rattle.mes_json.specs.Tree.Members.{no_members, member}

pub data Token : Type 0 where
  null : Token
  boolean : Bool → Token
  number : List ℕ → Token
  string : List ℕ → Token
  name : List ℕ → Token
  begin_array : Token
  begin_object : Token
  ends : Token

abbrev mutual
  pub tokens : Tree → List Token
  tokens Tree.null = null ∷ []
  tokens (Tree.boolean x) = boolean x ∷ []
  tokens (Tree.number n) = number n ∷ []
  tokens (Tree.string s) = string s ∷ []
  tokens (Tree.array ts) = begin_array ∷ tokens_of_items ts ++ ends ∷ []
  tokens (Tree.object ms) = begin_object ∷ tokens_of_members ms ++ ends ∷ []

  pub tokens_of_items : Items → List Token
  tokens_of_items no_items = []
  tokens_of_items (item t ts) = tokens t ++ tokens_of_items ts

  pub tokens_of_members : Members → List Token
  tokens_of_members no_members = []
  tokens_of_members (member m t ms) = name m ∷ tokens t ++ tokens_of_members ms

-- the tokens xs begin with those of the value t
abbrev pub BeginsWith : List Token → Tree → Type 0
BeginsWith xs t = (rest : List Token) × (xs ≡ tokens t ++ rest)

-- the tokens xs begin with those of the items ts and of the end of their array
abbrev pub BeginsItems : List Token → Items → Type 0
BeginsItems xs ts = (rest : List Token) × (xs ≡ tokens_of_items ts ++ ends ∷ rest)

-- the tokens xs begin with those of the members ms and of the end of their object
abbrev pub BeginsMembers : List Token → Members → Type 0
BeginsMembers xs ms = (rest : List Token) × (xs ≡ tokens_of_members ms ++ ends ∷ rest)

-- ---- tokens encoded as numbers and lists of numbers

abbrev token_to_pair : Token → ℕ × List ℕ
token_to_pair null = (0, [])
token_to_pair (boolean false) = (1, [])
token_to_pair (boolean true) = (2, [])
token_to_pair (number n) = (3, n)
token_to_pair (string s) = (4, s)
token_to_pair (name s) = (5, s)
token_to_pair begin_array = (6, [])
token_to_pair begin_object = (7, [])
token_to_pair ends = (8, [])

abbrev token_from_pair : ℕ × List ℕ → Token
token_from_pair p =
    cond (p.0 == 0) null (cond (p.0 == 1) (boolean false) (cond (p.0 == 2) (boolean true) (cond (p.0 == 3) (number p.1)
    (cond (p.0 == 4) (string p.1) (cond (p.0 == 5) (name p.1) (cond (p.0 == 6) begin_array (cond (p.0 == 7) begin_object ends)))))))

pub token_from_pair-token_to_pair : (x : Token) → token_from_pair (token_to_pair x) ≡ x
token_from_pair-token_to_pair null = refl
token_from_pair-token_to_pair (boolean false) = refl
token_from_pair-token_to_pair (boolean true) = refl
token_from_pair-token_to_pair (number n) = refl
token_from_pair-token_to_pair (string s) = refl
token_from_pair-token_to_pair (name s) = refl
token_from_pair-token_to_pair begin_array = refl
token_from_pair-token_to_pair begin_object = refl
token_from_pair-token_to_pair ends = refl

abbrev pub tokens_code : Coded (List Token)
tokens_code = coded_list (code_by (ℕ × List ℕ) (coded× coded_ℕ (coded_list coded_ℕ)) token_to_pair token_from_pair token_from_pair-token_to_pair)
