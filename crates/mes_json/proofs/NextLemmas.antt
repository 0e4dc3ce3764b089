-- The next item or member that a cursor returns.
use Rattle.std.proofs.Common.{◌≡◌, ℕ, ◌+◌, ◌<◌, ◌≤◌, min, true, false, List, [], ◌∷◌, ◌++◌, length, drop, Some, None, refl, ap, sym, subst, ◌∙◌, arith, append_assoc}
use Rattle.mes_json.specs.Tree.{Tree, Items, Members}
use Rattle.mes_json.specs.Tree.Tree.{null, boolean, number, string, array, object}
use Rattle.mes_json.specs.Tree.Items.{no_items, item}
use Rattle.mes_json.specs.Tree.Members.{no_members, member}
use Rattle.mes_json.specs.Tokens.{Token, tokens, tokens_of_items, tokens_of_members, BeginsItems, BeginsMembers}
use Rattle.mes_json.specs.Tokens.Token.{ends}
use Rattle.mes_json.specs.Cursor.{NextItem, NextMember, count_of}
use Rattle.mes_json.specs.Passing.{following, is_end, as_name}
use Rattle.mes_json.proofs.PassingLemmas.{over_value, behind_within, behind_first}

value_no_end : (t : Tree) (rest : List Token) → is_end (tokens t ++ rest) ≡ false
value_no_end null rest = refl
value_no_end (boolean x) rest = refl
value_no_end (number s) rest = refl
value_no_end (string s) rest = refl
value_no_end (array ts) rest = refl
value_no_end (object ms) rest = refl

pub no_item : (xs : List Token) (ts : Items) → is_end xs ≡ true → BeginsItems xs ts → NextItem ts None xs
no_item xs no_items end begins = begins
no_item xs (item t ts) end (rest, is) =
    let e : is_end xs ≡ false = ap is_end (is ∙ append_assoc (tokens t) (tokens_of_items ts) (ends ∷ rest)) ∙ value_no_end t (tokens_of_items ts ++ ends ∷ rest) in cc

pub next_item : (xs found new : List Token) (ts : Items) → is_end xs ≡ false → found ≡ xs → new ≡ following 0 xs → BeginsItems xs ts → NextItem ts (Some found) new
next_item xs found new no_items going here passed (rest, is) = let e : is_end xs ≡ true = ap is_end is in cc
next_item xs found new (item t ts) going here passed (rest, is) =
    let first = is ∙ append_assoc (tokens t) (tokens_of_items ts) (ends ∷ rest) in
    ((tokens_of_items ts ++ ends ∷ rest, here ∙ first), (rest, passed ∙ ap (following 0) first ∙ over_value t 0 (tokens_of_items ts ++ ends ∷ rest)))

pub next_member : (xs value new : List Token) (ms : Members) (k : List ℕ) → as_name xs ≡ Some k → value ≡ drop 1 xs → new ≡ following 0 value → BeginsMembers xs ms
    → NextMember ms (Some (k, value)) new
next_member xs value new no_members k named here passed (rest, is) = let e : as_name xs ≡ None = ap as_name is in cc
next_member xs value new (member m t ms) k named here passed (rest, is) =
    let e : as_name xs ≡ Some m = ap as_name is in
    let first = here ∙ ap (drop 1) is ∙ append_assoc (tokens t) (tokens_of_members ms) (ends ∷ rest) in
    (cc, (tokens_of_members ms ++ ends ∷ rest, first), (rest, passed ∙ ap (following 0) first ∙ over_value t 0 (tokens_of_members ms ++ ends ∷ rest)))

pub shorter_item : (xs new : List Token) → is_end xs ≡ false → new ≡ following 0 xs → length new < length xs
shorter_item [] new going passed = cc
shorter_item (x ∷ xs) new going passed = let within = behind_first 0 x xs in omega (arith, within, ap length passed)

pub shorter_member : (xs value new : List Token) (k : List ℕ) → as_name xs ≡ Some k → value ≡ drop 1 xs → new ≡ following 0 value → length new < length xs
shorter_member [] value new k named here passed = cc
shorter_member (x ∷ xs) value new k named here passed = let within = behind_within 0 xs in omega (arith, within, ap length (passed ∙ ap (following 0) here))

-- `rest` is the tokens xs of an array's items without the first n items
abbrev pub Counted : List Token → List Token → ℕ → Type 0
Counted xs rest n = (ts : Items) → BeginsItems xs ts → (us : Items) × BeginsItems rest us × (count_of ts ≡ n + count_of us)

pub counts_first : (xs rest : List Token) → rest ≡ xs → Counted xs rest 0
counts_first xs rest is ts begins = (ts, subst (λ (ys : List Token). BeginsItems ys ts) (sym is) begins, omega arith)

pub counts_next : (xs rest next : List Token) (x : List Token) (n : ℕ) → Counted xs rest n → ((us : Items) → BeginsItems rest us → NextItem us (Some x) next) → Counted xs next (n + 1)
counts_next xs rest next x n counted finds ts begins = on (counted ts begins) where
  on : (us : Items) × BeginsItems rest us × (count_of ts ≡ n + count_of us) → (vs : Items) × BeginsItems next vs × (count_of ts ≡ (n + 1) + count_of vs)
  on (no_items, here, is) = absurd (finds no_items here)
  on (item u us, here, is) = (us, (finds (item u us) here).1, omega (arith, is))

pub counts_all : (xs rest next : List Token) (n most : ℕ) → Counted xs rest n → ((us : Items) → BeginsItems rest us → NextItem us None next) → n < most
    → (ts : Items) → BeginsItems xs ts → n ≡ min (count_of ts) most
counts_all xs rest next n most counted finds less ts begins = on (counted ts begins) where
  on : (us : Items) × BeginsItems rest us × (count_of ts ≡ n + count_of us) → n ≡ min (count_of ts) most
  on (no_items, here, is) = omega (arith, is, less)
  on (item u us, here, is) = absurd (finds (item u us) here)

pub counts_most : (xs rest : List Token) (n most : ℕ) → Counted xs rest n → most ≤ n → n ≤ most → (ts : Items) → BeginsItems xs ts → most ≡ min (count_of ts) most
counts_most xs rest n most counted all within ts begins = let counts = counted ts begins in omega (arith, counts.2, all, within)
