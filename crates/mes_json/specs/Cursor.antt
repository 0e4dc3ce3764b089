-- The results of a cursor on a tape, in terms of the tree of the value at the cursor.
use Rattle.std.specs.Prelude.{◌≡◌, ℕ, suc, Bool, true, false, List, Option, Some, None, map}
use Rattle.mes_json.specs.Tree.{Tree, Items, Members}
use Rattle.mes_json.specs.Tree.Items.{no_items, item}
use Rattle.mes_json.specs.Tree.Members.{no_members, member}
use Rattle.mes_json.specs.Tape.{span}
use Rattle.mes_json.specs.Tokens.{Token, BeginsWith, BeginsItems, BeginsMembers}
use Rattle.mes_json.specs.declared.tape.Node.{Node}
use Rattle.mes_json.specs.declared.tape.Node.TheVariants as node

-- the token of a node, whose text is in the buffer of texts
abbrev pub token_of : List ℕ → Node → Token
token_of texts node.Null = Token.null
token_of texts (node.Bool x) = Token.boolean x
token_of texts (node.Number from to) = Token.number (span texts from to)
token_of texts (node.Text from to) = Token.string (span texts from to)
token_of texts (node.Name from to) = Token.name (span texts from to)
token_of texts (node.List n) = Token.begin_array
token_of texts (node.Map n) = Token.begin_object
token_of texts node.End = Token.ends

abbrev pub tokens_held : List ℕ → List Node → List Token
tokens_held texts xs = map (token_of texts) xs

-- ---- accessors of a tree by its kind, and the number of items

abbrev pub is_null : Tree → Bool
is_null Tree.null = true
is_null (Tree.boolean x) = false
is_null (Tree.number n) = false
is_null (Tree.string s) = false
is_null (Tree.array ts) = false
is_null (Tree.object ms) = false

abbrev pub as_bool : Tree → Option Bool
as_bool Tree.null = None
as_bool (Tree.boolean x) = Some x
as_bool (Tree.number n) = None
as_bool (Tree.string s) = None
as_bool (Tree.array ts) = None
as_bool (Tree.object ms) = None

abbrev pub as_number : Tree → Option (List ℕ)
as_number Tree.null = None
as_number (Tree.boolean x) = None
as_number (Tree.number n) = Some n
as_number (Tree.string s) = None
as_number (Tree.array ts) = None
as_number (Tree.object ms) = None

abbrev pub as_text : Tree → Option (List ℕ)
as_text Tree.null = None
as_text (Tree.boolean x) = None
as_text (Tree.number n) = None
as_text (Tree.string s) = Some s
as_text (Tree.array ts) = None
as_text (Tree.object ms) = None

abbrev pub as_items : Tree → Option Items
as_items Tree.null = None
as_items (Tree.boolean x) = None
as_items (Tree.number n) = None
as_items (Tree.string s) = None
as_items (Tree.array ts) = Some ts
as_items (Tree.object ms) = None

abbrev pub as_members : Tree → Option Members
as_members Tree.null = None
as_members (Tree.boolean x) = None
as_members (Tree.number n) = None
as_members (Tree.string s) = None
as_members (Tree.array ts) = None
as_members (Tree.object ms) = Some ms

abbrev pub count_of : Items → ℕ
count_of no_items = 0
count_of (item t ts) = suc (count_of ts)

-- ---- the cursors that `items`, `members` and `next` return

-- for an array, the result is a cursor at its items; for any other value, None
abbrev pub FindsItems : Option (List Token) → Option Items → Type 0
FindsItems None None = Unit {0}
FindsItems None (Some ts) = ⊥
FindsItems (Some xs) None = ⊥
FindsItems (Some xs) (Some ts) = BeginsItems xs ts

-- for an object, the result is a cursor at its members; for any other value, None
abbrev pub FindsMembers : Option (List Token) → Option Members → Type 0
FindsMembers None None = Unit {0}
FindsMembers None (Some ms) = ⊥
FindsMembers (Some xs) None = ⊥
FindsMembers (Some xs) (Some ms) = BeginsMembers xs ms

-- the result is the first item, and `rest` is at the items after it; None if there are no items
abbrev pub NextItem : Items → Option (List Token) → List Token → Type 0
NextItem no_items None rest = BeginsItems rest no_items
NextItem no_items (Some x) rest = ⊥
NextItem (item t ts) None rest = ⊥
NextItem (item t ts) (Some x) rest = BeginsWith x t × BeginsItems rest ts

-- the result is the first member, and `rest` is at the members after it; None if there are none
abbrev pub NextMember : Members → Option (List ℕ × List Token) → List Token → Type 0
NextMember no_members None rest = BeginsMembers rest no_members
NextMember no_members (Some x) rest = ⊥
NextMember (member m t ms) None rest = ⊥
NextMember (member m t ms) (Some x) rest = (x.0 ≡ m) × BeginsWith x.1 t × BeginsMembers rest ms
