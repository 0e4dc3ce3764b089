-- Skipping a value on a tape leads to the tokens after the value.
use Rattle.std.proofs.Common.{◌≡◌, ℕ, zero, suc, ◌+◌, ◌-◌, ◌<◌, ◌≤◌, ◌≢◌, List, [], ◌∷◌, ◌++◌, length, take, drop, get_or, refl, ap, sym, ◌∙◌, arith, append_assoc, lit≤, length-drop}
use Rattle.std.proofs.Math.Nat.{pred-le}
use Rattle.std.proofs.lemmas.List.{take_all, drop_more, drop_all, drop-map, get_or-map, length-map}
use Rattle.mes_json.specs.Tree.{Tree, Items, Members}
use Rattle.mes_json.specs.Tree.Tree.{null, boolean, number, string, array, object}
use Rattle.mes_json.specs.Tree.Items.{no_items, item}
use Rattle.mes_json.specs.Tree.Members.{no_members, member}
use Rattle.mes_json.specs.Tokens.{Token, tokens, tokens_of_items, tokens_of_members}
use Rattle.mes_json.specs.Tokens.Token.{ends}
use Rattle.mes_json.specs.Cursor.{token_of, tokens_held}
use Rattle.mes_json.specs.Passing.{depth_after, by_depth, following}
use Rattle.mes_json.specs.declared.tape.Node.{Node}
use Rattle.mes_json.specs.declared.tape.Node.TheVariants.{Null, Bool, Number, Text, Name, List as list, Map, End}

mutual
  pub over_value : (t : Tree) (n : ℕ) (rest : List Token) → following n (tokens t ++ rest) ≡ by_depth n rest (following n rest)
  over_value null n rest = refl
  over_value (boolean x) n rest = refl
  over_value (number s) n rest = refl
  over_value (string s) n rest = refl
  over_value (array ts) n rest = ap (following (suc n)) (append_assoc (tokens_of_items ts) (ends ∷ []) rest) ∙ over_items ts n (ends ∷ rest)
  over_value (object ms) n rest = ap (following (suc n)) (append_assoc (tokens_of_members ms) (ends ∷ []) rest) ∙ over_members ms n (ends ∷ rest)

  over_items : (ts : Items) (n : ℕ) (rest : List Token) → following (suc n) (tokens_of_items ts ++ rest) ≡ following (suc n) rest
  over_items no_items n rest = refl
  over_items (item t ts) n rest =
      ap (following (suc n)) (append_assoc (tokens t) (tokens_of_items ts) rest) ∙ over_value t (suc n) (tokens_of_items ts ++ rest) ∙ over_items ts n rest

  over_members : (ms : Members) (n : ℕ) (rest : List Token) → following (suc n) (tokens_of_members ms ++ rest) ≡ following (suc n) rest
  over_members no_members n rest = refl
  over_members (member m t ms) n rest =
      ap (following (suc n)) (append_assoc (tokens t) (tokens_of_members ms) rest) ∙ over_value t (suc n) (tokens_of_members ms ++ rest) ∙ over_members ms n rest

pub held_at : (texts : List ℕ) (xs : List Node) (i : ℕ) (x : Node) → i < length xs
    → drop i (tokens_held texts xs) ≡ token_of texts (get_or xs i x) ∷ drop (i + 1) (tokens_held texts xs)
held_at texts xs i x inside =
    drop_more (tokens_held texts xs) i (token_of texts x) (omega (arith, length-map xs (token_of texts)))
    ∙ ap (λ (y : Token). y ∷ drop (i + 1) (tokens_held texts xs)) (get_or-map (token_of texts) xs i x (token_of texts x) inside)

one_more : (texts : List ℕ) (xs : List Node) (i : ℕ) (x : Node) (n now : ℕ) → i < length xs → now ≡ depth_after n (token_of texts (get_or xs i x))
    → following n (drop i (tokens_held texts xs)) ≡ by_depth now (drop (i + 1) (tokens_held texts xs)) (following now (drop (i + 1) (tokens_held texts xs)))
one_more texts xs i x n now inside is =
    ap (following n) (held_at texts xs i x inside)
    ∙ ap (λ (m : ℕ). by_depth m (drop (i + 1) (tokens_held texts xs)) (following m (drop (i + 1) (tokens_held texts xs)))) (sym is)

-- at most as many arrays and objects are open as there are nodes so far
pub depth_within : (x : Node) (i n now : ℕ) → n ≤ i → now ≡ depth_after n (token_of [] x) → now ≤ i + 1
depth_within Null i n now h is = omega arith
depth_within (Bool b) i n now h is = omega arith
depth_within (Number from to) i n now h is = omega arith
depth_within (Text from to) i n now h is = omega arith
depth_within (Name from to) i n now h is = omega arith
depth_within (list m) i n now h is = omega arith
depth_within (Map m) i n now h is = omega arith
depth_within End i n now h is = omega (arith, pred-le n)

by_some : (n : ℕ) (xs ys : List Token) → n ≢ 0 → by_depth n xs ys ≡ ys
by_some zero xs ys some = absurd (some refl)
by_some (suc n) xs ys some = refl

-- one more node, after which no array or object is open: the value ends
pub over_last : (texts : List ℕ) (xs : List Node) (i : ℕ) (x : Node) (n now : ℕ) → i < length xs → now ≡ depth_after n (token_of texts (get_or xs i x)) → now ≡ 0
    → following n (drop i (tokens_held texts xs)) ≡ drop (i + 1) (tokens_held texts xs)
over_last texts xs i x n now inside is none =
    one_more texts xs i x n now inside is ∙ ap (λ (m : ℕ). by_depth m (drop (i + 1) (tokens_held texts xs)) (following m (drop (i + 1) (tokens_held texts xs)))) none

-- one more node, after which an array or object is open: the value goes on
pub over_one : (texts : List ℕ) (xs : List Node) (i : ℕ) (x : Node) (n now : ℕ) → i < length xs → now ≡ depth_after n (token_of texts (get_or xs i x)) → now ≢ 0
    → following n (drop i (tokens_held texts xs)) ≡ following now (drop (i + 1) (tokens_held texts xs))
over_one texts xs i x n now inside is some = one_more texts xs i x n now inside is ∙ by_some now _ _ some

pub over_none : (texts : List ℕ) (xs : List Node) (i n : ℕ) → length xs ≤ i → following n (drop i (tokens_held texts xs)) ≡ drop (length xs) (tokens_held texts xs)
over_none texts xs i n is =
    let all : drop i (tokens_held texts xs) ≡ [] = drop_all i (tokens_held texts xs) (omega (arith, length-map xs (token_of texts))) in
    let whole : drop (length xs) (tokens_held texts xs) ≡ [] = drop_all (length xs) (tokens_held texts xs) (omega (arith, length-map xs (token_of texts))) in
    ap (following n) all ∙ sym whole

pub held_rest : (texts : List ℕ) (xs : List Node) (i : ℕ) → tokens_held texts (take (length xs - i) (drop i xs)) ≡ drop i (tokens_held texts xs)
held_rest texts xs i = ap (λ (ys : List Node). tokens_held texts ys) (take_all (length xs - i) (drop i xs) (simp length-drop (omega arith))) ∙ sym (drop-map (token_of texts) i xs)

by_depth_within : (n : ℕ) (xs ys : List Token) → length ys ≤ length xs → length (by_depth n xs ys) ≤ length xs
by_depth_within zero xs ys h = omega arith
by_depth_within (suc n) xs ys h = h

pub behind_within : (n : ℕ) (xs : List Token) → length (following n xs) ≤ length xs
behind_within n [] = lit≤ tt
behind_within n (x ∷ xs) =
    let within = by_depth_within (depth_after n x) xs (following (depth_after n x) xs) (behind_within (depth_after n x) xs) in omega (arith, within)

pub behind_first : (n : ℕ) (x : Token) (xs : List Token) → length (following n (x ∷ xs)) ≤ length xs
behind_first n x xs = by_depth_within (depth_after n x) xs (following (depth_after n x) xs) (behind_within (depth_after n x) xs)
