-- Lemmas about found_rows.rt: the members of an object are found one after another.
use Rattle.std.proofs.Common.{◌≡◌, ◌||◌, ℕ, zero, suc, ◌<◌, ◌≤◌, inl, inr, set, Bool, true, false, List, [], ◌∷◌, ◌++◌, length, get_or, cond, bytes_eq, Some, None, refl, sym, ◌∙◌, ap, subst, arith, append-nil, append_assoc, length-append}
use Rattle.std.proofs.lemmas.Grind.{common_steps}
use Rattle.std.proofs.lemmas.List.{get_or-set_same, get_or-set_other}
use Rattle.std.proofs.lemmas.Bool.{cases_lt}
use Rattle.std.specs.List.{refill}
use Rattle.mes_json.specs.Tree.{Tree, Members}
use Rattle.mes_json.specs.Tree.Tree.{null, boolean, number, string, array, object}
use Rattle.mes_json.specs.Tree.Members.{no_members, member}
use Rattle.mes_json.specs.Tokens.{Token, BeginsWith, BeginsMembers}
use Rattle.mes_json.specs.Cursor.{as_members, FindsMembers, NextMember}
use Rattle.mes_model_schema.specs.Paths.{Place}
use Rattle.mes_model_schema.specs.Fields.{values_named, fault, is_in}
use Rattle.mes_model_schema.specs.NameLaws.{distinct, distinct_first, names_equal, names_differ, same_name}
use Rattle.mes_model_schema.specs.Leaves.{members_at}
use Rattle.mes_model_schema.specs.Objects.{members_in}
use Rattle.mes_model_schema.specs.FoundRows.{IsFound, noted, noted_if}
use Rattle.mes_model_schema.specs.declared.field.FieldFaultKind.TheVariants.{WrongKind}
use Rattle.mes_model_schema.specs.declared.found_rows.Found.{Found}
use Rattle.mes_model_schema.specs.declared.found_rows.Found.TheVariants.{Nothing, One, More}

-- ---- a tree is an object or not

pub members_found : (xs : List Token) (t : Tree) → FindsMembers (Some xs) (as_members t) → (t ≡ object (members_in t)) × BeginsMembers xs (members_in t)
members_found xs null h = absurd h
members_found xs (boolean x) h = absurd h
members_found xs (number n) h = absurd h
members_found xs (string s) h = absurd h
members_found xs (array ts) h = absurd h
members_found xs (object ms) h = (refl, h)

pub no_members_found : (at : List Place) (t : Tree) → FindsMembers None (as_members t) → members_at at t ≡ fault at WrongKind
no_members_found at null h = refl
no_members_found at (boolean x) h = refl
no_members_found at (number n) h = refl
no_members_found at (string s) h = refl
no_members_found at (array ts) h = refl
no_members_found at (object ms) h = absurd h

-- ---- the members of one name

-- the values found so far, followed by the remaining values, are all values
abbrev pub Follows : Found → List Tree → List Tree → Type 0
Follows f all rest = (ts : List Tree) × IsFound f ts × (all ≡ ts ++ rest)

found_more : (f : Found) (ts : List Tree) (e : List Token) (t : Tree) → IsFound f ts → BeginsWith e t → IsFound (noted e f) (ts ++ t ∷ [])
found_more Nothing ts e t h b = (t, ap (λ (us : List Tree). us ++ t ∷ []) h, b)
found_more (One x) ts e t h b = omega (arith, length-append ts (t ∷ []), ap length h.1)
found_more More ts e t h b = omega (arith, length-append ts (t ∷ []), h)

follows_test : (x : Bool) (f : Found) (all rest : List Tree) (e : List Token) (t : Tree) → BeginsWith e t
    → Follows f all (cond x (t ∷ rest) rest) → Follows (noted_if x e f) all rest
follows_test true f all rest e t b (ts, h, is) = (ts ++ t ∷ [], found_more f ts e t h b, is ∙ sym (append_assoc ts (t ∷ []) rest))
follows_test false f all rest e t b h = h

follows_end : (f : Found) (all : List Tree) → Follows f all [] → IsFound f all
follows_end f all (ts, h, is) = subst (IsFound f) (sym (is ∙ append-nil ts)) h

-- ---- the members of all names

-- under each name, the values found so far, followed by the remaining values, are all values
abbrev pub FollowEach : List Found → List (List ℕ) → Members → Members → Type 0
FollowEach fs names ms rest =
    (i : ℕ) → i < length names → Follows (get_or fs i Nothing) (values_named (get_or names i []) ms) (values_named (get_or names i []) rest)

pub follow_each_first : (fs : List Found) (names : List (List ℕ)) (ms : Members) → ((i : ℕ) → i < length names → get_or fs i Nothing ≡ Nothing) → FollowEach fs names ms ms
follow_each_first fs names ms none i inside =
    subst (λ (f : Found). Follows f (values_named (get_or names i []) ms) (values_named (get_or names i []) ms)) (sym (none i inside)) ([], refl, refl)

pub follow_each_next : (fs gs : List Found) (names : List (List ℕ)) (ms rest : Members) (x : List ℕ × List Token) (following : List Token)
    → ((i : ℕ) → i < length names → get_or gs i Nothing ≡ noted_if (bytes_eq x.0 (get_or names i [])) x.1 (get_or fs i Nothing))
    → NextMember rest (Some x) following → FollowEach fs names ms rest → (others : Members) × BeginsMembers following others × FollowEach gs names ms others
follow_each_next fs gs names ms no_members x following notes next each = absurd next
follow_each_next fs gs names ms (member m t others) x following notes next each = (
  others,
  next.2,
  λ i inside.
      let this : Follows (get_or fs i Nothing) (values_named (get_or names i []) ms) (cond (bytes_eq x.0 (get_or names i [])) (t ∷ values_named (get_or names i []) others) (values_named (get_or names i []) others)) =
      rw (next.0) (each i inside) in
      subst (λ (f : Found). Follows f (values_named (get_or names i []) ms) (values_named (get_or names i []) others)) (sym (notes i inside))
      (follows_test (bytes_eq x.0 (get_or names i [])) (get_or fs i Nothing) _ _ x.1 t next.1 this),
)

pub follow_each_last : (fs : List Found) (names : List (List ℕ)) (ms rest : Members) (following : List Token)
    → NextMember rest None following → FollowEach fs names ms rest → (i : ℕ) → i < length names → IsFound (get_or fs i Nothing) (values_named (get_or names i []) ms)
follow_each_last fs names ms no_members following next each i inside = follows_end (get_or fs i Nothing) _ (each i inside)
follow_each_last fs names ms (member m t others) following next each i inside = absurd next

-- ---- if names are distinct, a member changes the entry of at most one name
names_behind : (n : List ℕ) (ns : List (List ℕ)) (k : ℕ) → is_in n ns ≡ false → k < length ns → bytes_eq (get_or ns k []) n ≡ false
names_behind n [] k none inside = absurd (omega (arith, inside))
names_behind n (m ∷ ms) zero none inside = by_test (bytes_eq m n) refl none where
  by_test : (x : Bool) → bytes_eq m n ≡ x → (x || is_in n ms) ≡ false → x ≡ false
  by_test false e h = refl
  by_test true e h = absurd (cc)
names_behind n (m ∷ ms) (suc k) none inside = names_behind n ms k (by_test (bytes_eq m n) none) (omega (arith, inside)) where
  by_test : (x : Bool) → (x || is_in n ms) ≡ false → is_in n ms ≡ false
  by_test false h = h
  by_test true h = absurd (cc)

pub named_once : (x : List ℕ) (ns : List (List ℕ)) (i k : ℕ) → distinct ns ≡ true → bytes_eq x (get_or ns i []) ≡ true → i < k → k < length ns → bytes_eq x (get_or ns k []) ≡ false
named_once x [] i k once is less inside = absurd (omega (arith, inside))
named_once x (n ∷ ns) i zero once is less inside = absurd (omega (arith, less))
named_once x (n ∷ ns) zero (suc k) once is less inside =
    let other = names_behind n ns k (distinct_first n ns once).0 (omega (arith, inside)) in
    names_differ x (get_or ns k []) (λ e.
    let yes : bytes_eq (get_or ns k []) n ≡ true = subst (λ (y : List ℕ). bytes_eq y n ≡ true) (sym (names_equal x n is) ∙ e) (same_name n) in absurd (cc))
named_once x (n ∷ ns) (suc i) (suc k) once is less inside = named_once x ns i k (distinct_first n ns once).1 is (omega (arith, less)) (omega (arith, inside))

pub noted_once : (fs : List Found) (names : List (List ℕ)) (x : List ℕ) (e : List Token) (place : ℕ) → distinct names ≡ true → place < length names → length names ≤ length fs
    → bytes_eq x (get_or names place []) ≡ true → ((k : ℕ) → k < place → bytes_eq x (get_or names k []) ≡ false)
    → (i : ℕ) → i < length names → get_or (set fs place (noted e (get_or fs place Nothing))) i Nothing ≡ noted_if (bytes_eq x (get_or names i [])) e (get_or fs i Nothing)
noted_once fs names x e place once here room is before i inside = elim (cases_lt i place) [
  | inl less ↦ get_or-set_other fs place i (noted e (get_or fs place Nothing)) Nothing (λ same. absurd (omega (arith, less, same))) ∙ rw (before i less) refl
  | inr rest ↦ elim (cases_lt place i) [
    | inl more ↦ get_or-set_other fs place i (noted e (get_or fs place Nothing)) Nothing (λ same. absurd (omega (arith, more, same))) ∙ rw (named_once x names place i once is more inside) refl
    | inr following ↦
        let at : place ≡ i = omega (arith, rest, following) in
        subst (λ (k : ℕ). get_or (set fs place (noted e (get_or fs place Nothing))) k Nothing ≡ noted_if (bytes_eq x (get_or names k [])) e (get_or fs k Nothing)) at
        (get_or-set_same fs place (noted e (get_or fs place Nothing)) Nothing (omega (arith, here, room)) ∙ rw is refl)
  ]
]

pub refilled : (fs gs : List Found) → length gs ≡ length fs → refill (length fs) fs gs ≡ gs
refilled fs gs same = grind (arith, common_steps)
