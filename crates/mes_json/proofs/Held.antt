-- `Held`: the form, by the grammar, of the bytes that lead to each state of the state machine.
use Rattle.std.proofs.Common.{◌≡◌, ℕ, zero, suc, ◌≤◌, List, [], ◌∷◌, ◌++◌, encode_utf8}
use Rattle.mes_fixed.specs.Automaton.{Ends}
use Rattle.mes_fixed.specs.declared.automaton.NumberState.TheVariants.{AtStart}
use Rattle.mes_json.specs.Tree.{Tree, Items, Members}
use Rattle.mes_json.specs.Tree.Items.{no_items, item}
use Rattle.mes_json.specs.Tree.Members.{no_members, member}
use Rattle.mes_json.specs.Grammar.{IsSpaces, IsChar, IsChars, IsString, IsValue, AreItems, AreMembers}
use Rattle.mes_json.specs.Machine.{State, Frame, Purpose, Utf8State, Token}
use Rattle.mes_json.specs.Machine.State.{state}
use Rattle.mes_json.specs.Machine.Frame.{frame, array_frame}
use Rattle.mes_json.specs.Machine.Purpose.{for_name, for_value}
use Rattle.mes_json.specs.Machine.Token.{literal, digits}
use Rattle.mes_json.specs.Machine.ReaderState.{value, first_item, name, quoted, named, token, after}
use Rattle.mes_json.specs.Machine.Utf8State.{between, within, escape}
use Rattle.mes_json.proofs.HeldEscape.{InEscape}

-- ---- strings
-- the list has n bytes, the first from `least` to `most`, the others from 80 to BF
abbrev pub Fits : ℕ → ℕ → ℕ → List ℕ → Type 0
Fits zero least most q = q ≡ []
Fits (suc n) least most [] = ⊥
Fits (suc n) least most (c ∷ q) = (least ≤ c) × (c ≤ most) × Fits n 0x80 0xBF q

-- the first bytes of a character: with any n bytes that `Fits` allows, they are a whole character
pub record IsPart (n least most : ℕ) (part : List ℕ) : Type 0 where
  pub some : least ≤ most
  pub whole : (q : List ℕ) → Fits n least most q → (c : ℕ) × IsChar (part ++ q) c × (encode_utf8 c ≡ part ++ q)

abbrev pub PartOf : Utf8State → List ℕ → Type 0
PartOf between part = part ≡ []
PartOf (within zero least most) part = ⊥
PartOf (within (suc n) least most) part = IsPart (suc n) least most part
PartOf (escape e) part = InEscape e part

-- the bytes of an unfinished character that are in the decoded string already
abbrev pub kept : Utf8State → List ℕ → List ℕ
kept between part = part
kept (within n least most) part = part
kept (escape e) part = []

pub record InString (m : Utf8State) (s : List ℕ) (b : List ℕ) : Type 0 where
  pub whole : List ℕ
  pub part : List ℕ
  pub words : List ℕ
  pub is : b ≡ whole ++ part
  pub chars : IsChars whole words
  pub text : s ≡ words ++ kept m part
  pub part_of : PartOf m part

pub record InQuotes (Outside : List ℕ → Type 0) (m : Utf8State) (s : List ℕ) (b : List ℕ) : Type 0 where
  pub front : List ℕ
  pub inside : List ℕ
  pub is : b ≡ front ++ 34 ∷ inside
  pub outside : Outside front
  pub in_string : InString m s inside

-- ---- objects, by the form of the bytes outside of the object and the nesting that is left there
abbrev pub Before : Members → ℕ → List ℕ → Type 0
Before no_members room b = b ≡ []
Before (member k t ms) room b = (front : List ℕ) × (b ≡ front ++ 44 ∷ []) × AreMembers (member k t ms) room front

pub record InObject (Outside : ℕ → List ℕ → Type 0) (ms : Members) (room : ℕ) (b : List ℕ) : Type 0 where
  pub outer : List ℕ
  pub led : List ℕ
  pub spaces : List ℕ
  pub is : b ≡ outer ++ 123 ∷ (led ++ spaces)
  pub outside : Outside (suc room) outer
  pub before : Before ms room led
  pub are_spaces : IsSpaces spaces

pub record Named (Outside : ℕ → List ℕ → Type 0) (ms : Members) (k : List ℕ) (room : ℕ) (b : List ℕ) : Type 0 where
  pub front : List ℕ
  pub inside : List ℕ
  pub spaces : List ℕ
  pub is : b ≡ front ++ (inside ++ spaces)
  pub object : InObject Outside ms room front
  pub is_name : IsString k inside
  pub are_spaces : IsSpaces spaces

pub record Called (Outside : ℕ → List ℕ → Type 0) (ms : Members) (k : List ℕ) (room : ℕ) (b : List ℕ) : Type 0 where
  pub front : List ℕ
  pub spaces : List ℕ
  pub is : b ≡ front ++ 58 ∷ spaces
  pub name : Named Outside ms k room front
  pub are_spaces : IsSpaces spaces

-- ---- arrays
abbrev pub BeforeItem : Items → ℕ → List ℕ → Type 0
BeforeItem no_items room b = b ≡ []
BeforeItem (item t ts) room b = (front : List ℕ) × (b ≡ front ++ 44 ∷ []) × AreItems (item t ts) room front

pub record InArray (Outside : ℕ → List ℕ → Type 0) (ts : Items) (room : ℕ) (b : List ℕ) : Type 0 where
  pub outer : List ℕ
  pub led : List ℕ
  pub spaces : List ℕ
  pub is : b ≡ outer ++ 91 ∷ (led ++ spaces)
  pub outside : Outside (suc room) outer
  pub before : BeforeItem ts room led
  pub are_spaces : IsSpaces spaces

-- the bytes before a value in open objects and arrays; `room` more levels of nesting are allowed
abbrev pub HeldStack : ℕ → List Frame → ℕ → List ℕ → Type 0
HeldStack d [] room b = (room ≡ d) × IsSpaces b
HeldStack d (frame ms k ∷ fs) room b = Called (HeldStack d fs) ms k room b
HeldStack d (array_frame ts ∷ fs) room b = InArray (HeldStack d fs) ts room b

pub record Valued (Outside : List ℕ → Type 0) (t : Tree) (room : ℕ) (b : List ℕ) : Type 0 where
  pub front : List ℕ
  pub inside : List ℕ
  pub spaces : List ℕ
  pub is : b ≡ front ++ (inside ++ spaces)
  pub outside : Outside front
  pub is_value : IsValue t room inside
  pub are_spaces : IsSpaces spaces

-- ---- literals and numbers
-- the bytes so far of a literal or number, described by the bytes that complete it
abbrev pub HeldToken : Token → List ℕ → Type 0
HeldToken (literal e rest t) b = (room : ℕ) → IsValue t room (b ++ e ∷ rest)
HeldToken (digits part n) b = (b ≡ n) × ((q : List ℕ) → Ends part q → Ends AtStart (n ++ q))

pub record InToken (Outside : List ℕ → Type 0) (x : Token) (b : List ℕ) : Type 0 where
  pub front : List ℕ
  pub inside : List ℕ
  pub is : b ≡ front ++ inside
  pub outside : Outside front
  pub held : HeldToken x inside

abbrev pub HeldFor : ℕ → List Frame → Purpose → ℕ → List ℕ → Type 0
HeldFor d fs (for_name ms) room b = InObject (HeldStack d fs) ms room b
HeldFor d fs for_value room b = HeldStack d fs room b

abbrev pub Held : ℕ → State → List ℕ → Type 0
Held d (state fs value) b = (room : ℕ) × HeldStack d fs room b
Held d (state fs first_item) b = (room : ℕ) × InArray (HeldStack d fs) no_items room b
Held d (state fs (name ms)) b = (room : ℕ) × InObject (HeldStack d fs) ms room b
Held d (state fs (quoted p m s)) b = (room : ℕ) × InQuotes (HeldFor d fs p room) m s b
Held d (state fs (named ms k)) b = (room : ℕ) × Named (HeldStack d fs) ms k room b
Held d (state fs (token x)) b = (room : ℕ) × InToken (HeldStack d fs room) x b
Held d (state fs (after t)) b = (room : ℕ) × Valued (HeldStack d fs room) t room b
