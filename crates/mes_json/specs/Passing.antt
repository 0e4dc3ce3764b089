-- The steps of a cursor over tokens: the end, a name, and the tokens after a value. A value ends at
-- the first token after which no array or object is open. Cited by private clauses only.
use Rattle.std.specs.Prelude.{ℕ, zero, suc, pred, Bool, true, false, Option, Some, None, List, [], ◌∷◌}
use Rattle.mes_json.specs.Tokens.{Token}
use Rattle.mes_json.specs.Tokens.Token.{null, boolean, number, string, name, begin_array, begin_object, ends}

-- the number of open arrays and objects after a token, if n were open before it
abbrev pub depth_after : ℕ → Token → ℕ
depth_after n null = n
depth_after n (boolean x) = n
depth_after n (number s) = n
depth_after n (string s) = n
depth_after n (name s) = n
depth_after n begin_array = suc n
depth_after n begin_object = suc n
depth_after n ends = pred n

-- xs if no array or object is open, otherwise ys
abbrev pub by_depth : ℕ → List Token → List Token → List Token
by_depth zero xs ys = xs
by_depth (suc n) xs ys = ys

-- the tokens after the first one that leaves no array or object open, if n are open before them
abbrev pub following : ℕ → List Token → List Token
following n [] = []
following n (x ∷ xs) = by_depth (depth_after n x) xs (following (depth_after n x) xs)

-- the first token is the end of an array or object, or there is no token
abbrev pub is_end : List Token → Bool
is_end [] = true
is_end (null ∷ xs) = false
is_end (boolean x ∷ xs) = false
is_end (number s ∷ xs) = false
is_end (string s ∷ xs) = false
is_end (name s ∷ xs) = false
is_end (begin_array ∷ xs) = false
is_end (begin_object ∷ xs) = false
is_end (ends ∷ xs) = true

-- the name of a member, if the first token is a name
abbrev pub as_name : List Token → Option (List ℕ)
as_name [] = None
as_name (null ∷ xs) = None
as_name (boolean x ∷ xs) = None
as_name (number s ∷ xs) = None
as_name (string s ∷ xs) = None
as_name (name s ∷ xs) = Some s
as_name (begin_array ∷ xs) = None
as_name (begin_object ∷ xs) = None
as_name (ends ∷ xs) = None
