-- The encoding of the members of an object as a list of tokens, which is parsed back to them.
use Rattle.std.specs.Prelude.{◌≡◌, ℕ, List, [], ◌∷◌, ◌++◌, refl}
use Rattle.std.proofs.Common.{◌∙◌, ap, append_assoc}
use Rattle.std.specs.Coded.{Coded, code_by}
use Rattle.mes_json.specs.Tree.{Tree, Items, Members}
use Rattle.mes_json.specs.Tree.Tree.{null, boolean, number, string, array, object}
use Rattle.mes_json.specs.Tree.Items.{no_items, item}
use Rattle.mes_json.specs.Tree.Members.{no_members, member}
use Rattle.mes_json.specs.Tokens.{Token, tokens, tokens_of_items, tokens_of_members, tokens_code}

-- The state of the parser, which begins at the last token: for each open array or object, the
-- values without a name and the members.
pub data Following : Type 0 where
  nothing : Following
  inside : Items → Members → Following → Following

-- the state after parsing a value before the tokens parsed so far
abbrev before : Tree → Following → Following
before t nothing = nothing
before t (inside ts ms b) = inside (item t ts) ms b

-- the state after parsing a name: the first value without a name becomes a member
abbrev named : List ℕ → Following → Following
named n nothing = nothing
named n (inside no_items ms b) = inside no_items ms b
named n (inside (item t ts) ms b) = inside ts (member n t ms) b

-- the state after the start of an array, which has the innermost values
abbrev array_of : Following → Following
array_of nothing = nothing
array_of (inside ts ms b) = before (array ts) b

abbrev object_of : Following → Following
object_of nothing = nothing
object_of (inside ts ms b) = before (object ms) b

-- the state after parsing a token before the tokens parsed so far
abbrev preceded : Token → Following → Following
preceded Token.null b = before null b
preceded (Token.boolean x) b = before (boolean x) b
preceded (Token.number n) b = before (number n) b
preceded (Token.string s) b = before (string s) b
preceded (Token.name n) b = named n b
preceded Token.begin_array b = array_of b
preceded Token.begin_object b = object_of b
preceded Token.ends b = inside no_items no_members b

abbrev following : List Token → Following
following [] = nothing
following (x ∷ xs) = preceded x (following xs)

-- the state after parsing items before the tokens parsed so far
abbrev items_before : Items → Following → Following
items_before no_items b = b
items_before (item t ts) b = before t (items_before ts b)

abbrev members_before : Members → Following → Following
members_before no_members b = b
members_before (member n t ms) b = named n (before t (members_before ms b))

items_before-inside : (ts : Items) (ms : Members) (b : Following) → items_before ts (inside no_items ms b) ≡ inside ts ms b
items_before-inside no_items ms b = refl
items_before-inside (item t ts) ms b = ap (before t) (items_before-inside ts ms b)

members_before-inside : (ms : Members) (b : Following) → members_before ms (inside no_items no_members b) ≡ inside no_items ms b
members_before-inside no_members b = refl
members_before-inside (member n t ms) b = ap (λ x. named n (before t x)) (members_before-inside ms b)

mutual
  following-tokens : (t : Tree) (xs : List Token) → following (tokens t ++ xs) ≡ before t (following xs)
  following-tokens null xs = refl
  following-tokens (boolean x) xs = refl
  following-tokens (number n) xs = refl
  following-tokens (string s) xs = refl
  following-tokens (array ts) xs =
      ap (λ ys. array_of (following ys)) (append_assoc (tokens_of_items ts) (Token.ends ∷ []) xs)
      ∙ ap array_of (following-tokens_of_items ts (Token.ends ∷ xs) ∙ items_before-inside ts no_members (following xs))
  following-tokens (object ms) xs =
      ap (λ ys. object_of (following ys)) (append_assoc (tokens_of_members ms) (Token.ends ∷ []) xs)
      ∙ ap object_of (following-tokens_of_members ms (Token.ends ∷ xs) ∙ members_before-inside ms (following xs))

  following-tokens_of_items : (ts : Items) (xs : List Token) → following (tokens_of_items ts ++ xs) ≡ items_before ts (following xs)
  following-tokens_of_items no_items xs = refl
  following-tokens_of_items (item t ts) xs =
      ap following (append_assoc (tokens t) (tokens_of_items ts) xs)
      ∙ following-tokens t (tokens_of_items ts ++ xs) ∙ ap (before t) (following-tokens_of_items ts xs)

  following-tokens_of_members : (ms : Members) (xs : List Token) → following (tokens_of_members ms ++ xs) ≡ members_before ms (following xs)
  following-tokens_of_members no_members xs = refl
  following-tokens_of_members (member n t ms) xs =
      ap (λ ys. named n (following ys)) (append_assoc (tokens t) (tokens_of_members ms) xs)
      ∙ ap (named n) (following-tokens t (tokens_of_members ms ++ xs) ∙ ap (before t) (following-tokens_of_members ms xs))

-- the members of the innermost object
abbrev innermost : Following → Members
innermost nothing = no_members
innermost (inside ts ms b) = ms

abbrev members_to_tokens : Members → List Token
members_to_tokens ms = tokens_of_members ms ++ Token.ends ∷ []

abbrev members_from_tokens : List Token → Members
members_from_tokens xs = innermost (following xs)

pub members_from_tokens-members_to_tokens : (ms : Members) → members_from_tokens (members_to_tokens ms) ≡ ms
members_from_tokens-members_to_tokens ms =
    ap innermost (following-tokens_of_members ms (Token.ends ∷ []) ∙ members_before-inside ms nothing)

abbrev pub members_code : Coded Members
members_code = code_by (List Token) tokens_code members_to_tokens members_from_tokens members_from_tokens-members_to_tokens
