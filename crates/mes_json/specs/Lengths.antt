-- The lengths of the arrays and objects on a tape, as their first nodes store them. Cited by
-- private clauses only.
use Rattle.std.specs.Prelude.{◌≡◌, ℕ, zero, suc, ◌≤◌, List, [], ◌∷◌, ◌++◌, length, drop, Option, Some, None}
use Rattle.mes_json.specs.Tokens.{Token}
use Rattle.mes_json.specs.Cursor.{tokens_held}
use Rattle.mes_json.specs.Passing.{following}
use Rattle.mes_json.specs.declared.tape.Node.{Node}
use Rattle.mes_json.specs.declared.tape.Node.TheVariants.{Null, Bool, Number, Text, Name, List as list, Map, End}

abbrev pub unless_zero : ℕ → Option ℕ
unless_zero zero = None
unless_zero (suc n) = Some (suc n)

-- the number of nodes after x in the value that x begins, if x stores that number
abbrev pub reported : Node → Option ℕ
reported Null = Some 0
reported (Bool x) = Some 0
reported (Number from to) = Some 0
reported (Text from to) = Some 0
reported (Name from to) = Some 0
reported (list n) = unless_zero n
reported (Map n) = unless_zero n
reported End = Some 0

-- x begins a value that consists of x and the first n nodes of xs
pub record HasRest (n : ℕ) (x : Node) (xs : List Node) : Type 0 where
  pub inside : n ≤ length xs
  pub ends : (texts : List ℕ) → following 0 (tokens_held texts (x ∷ xs)) ≡ drop n (tokens_held texts xs)

-- the length stored in the node x is correct, or unknown; xs are the nodes after x
abbrev pub TellsTruth : Node → List Node → Type 0
TellsTruth x xs = (n : ℕ) → reported x ≡ Some n → HasRest n x xs

-- the length stored in each node is correct, or unknown
abbrev pub TellLengths : List Node → Type 0
TellLengths [] = Unit {0}
TellLengths (x ∷ xs) = TellsTruth x xs × TellLengths xs

-- the node, with its length replaced by 0 (unknown)
abbrev pub unreported : Node → Node
unreported Null = Null
unreported (Bool x) = Bool x
unreported (Number from to) = Number from to
unreported (Text from to) = Text from to
unreported (Name from to) = Name from to
unreported (list n) = list 0
unreported (Map n) = Map 0
unreported End = End

-- the node, with its length replaced by n
abbrev pub telling : ℕ → Node → Node
telling n Null = Null
telling n (Bool x) = Bool x
telling n (Number from to) = Number from to
telling n (Text from to) = Text from to
telling n (Name from to) = Name from to
telling n (list m) = list n
telling n (Map m) = Map n
telling n End = End

-- the node neither begins nor ends an array or an object
abbrev pub IsLeaf : Node → Type 0
IsLeaf Null = Unit {0}
IsLeaf (Bool x) = Unit {0}
IsLeaf (Number from to) = Unit {0}
IsLeaf (Text from to) = Unit {0}
IsLeaf (Name from to) = Unit {0}
IsLeaf (list n) = ⊥
IsLeaf (Map n) = ⊥
IsLeaf End = ⊥

-- nodes with correct stored lengths, after which no array or object begun among them is open
pub record IsWhole (xs : List Node) : Type 0 where
  pub reports : (ys : List Node) → TellLengths ys → TellLengths (xs ++ ys)
  pub passes : (texts : List ℕ) (n : ℕ) (ts : List Token) → following (suc n) (tokens_held texts xs ++ ts) ≡ following (suc n) ts

-- the node at `place` begins an open array or object, and stores no length; `Known` holds of the
-- nodes before that node
pub record IsBegun (place : ℕ) (Known : List Node → Type 0) (xs : List Node) : Type 0 where
  pub outer : List Node
  pub first : Node
  pub inner : List Node
  pub is : xs ≡ outer ++ first ∷ inner
  pub begins : place ≡ length outer
  pub unknown : reported first ≡ None
  pub whole : IsWhole inner
  pub before : Known outer

-- arrays and objects that begin at the given indices are open, the innermost first; all stored
-- lengths are correct
abbrev pub AreBegun : List ℕ → List Node → Type 0
AreBegun [] xs = (ys : List Node) → TellLengths ys → TellLengths (xs ++ ys)
AreBegun (place ∷ places) xs = IsBegun place (AreBegun places) xs
