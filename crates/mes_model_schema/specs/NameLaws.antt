-- Lists of member names, and the members that are written under these names.
use Rattle.std.proofs.Common.{◌≡◌, ◌≢◌, ℕ, Bool, true, false, List, [], ◌∷◌, ◌++◌, refl, ◌∙◌, ap, subst, cond, bytes_eq, append-nil}
use Rattle.std.specs.Prelude.{◌||◌, ◌&&◌, not, if◌then◌else◌}
use Rattle.std.proofs.lemmas.Slice.Eq.{bytes_eq-Decides}
use Rattle.mes_json.specs.Tree.{Tree, Members}
use Rattle.mes_json.specs.Tree.Tree.{null}
use Rattle.mes_json.specs.View.{members_of}
use Rattle.mes_model_schema.specs.Fields.{values_named, is_in, Has}

-- no name is in both lists
abbrev pub apart : List (List ℕ) → List (List ℕ) → Bool
apart [] ns = true
apart (m ∷ ms) ns = not (is_in m ns) && apart ms ns

-- no name occurs twice
abbrev pub distinct : List (List ℕ) → Bool
distinct [] = true
distinct (n ∷ ns) = not (is_in n ns) && distinct ns

-- the union of two lists of names
abbrev pub united : List (List ℕ) → List (List ℕ) → List (List ℕ)
united [] ns = ns
united (m ∷ ms) ns = if is_in m ns then united ms ns else m ∷ united ms ns

-- under each of these names, the members of an object have exactly the written values, in order
abbrev pub Agrees : List (List ℕ) → Members → List (List ℕ × Tree) → Type 0
Agrees names ms own = (n : List ℕ) → is_in n names ≡ true → values_named n ms ≡ values_named n (members_of own)

-- no member is written under a name that is not in the list
abbrev pub Under : List (List ℕ) → List (List ℕ × Tree) → Type 0
Under names own = (n : List ℕ) → is_in n names ≡ false → values_named n (members_of own) ≡ []

pub same_name : (n : List ℕ) → bytes_eq n n ≡ true
same_name n = (bytes_eq-Decides n n).1 refl

pub names_equal : (m n : List ℕ) → bytes_eq m n ≡ true → m ≡ n
names_equal m n e = (bytes_eq-Decides m n).0 e

pub names_differ : (m n : List ℕ) → m ≢ n → bytes_eq m n ≡ false
names_differ m n h = by_test (bytes_eq m n) refl where
  by_test : (b : Bool) → bytes_eq m n ≡ b → b ≡ false
  by_test false e = refl
  by_test true e = absurd (h (names_equal m n e))

-- ---- lists of names: membership, and names that occur once

pub in_front : (n : List ℕ) (xs ys : List (List ℕ)) → is_in n xs ≡ true → is_in n (xs ++ ys) ≡ true
in_front n [] ys e = absurd (cc)
in_front n (m ∷ xs) ys e = elim (bytes_eq m n) as (λ v. (v || is_in n xs) ≡ true → (v || is_in n (xs ++ ys)) ≡ true) [
  | true ↦ λ h. refl
  | false ↦ λ h. in_front n xs ys h
] e

pub in_back : (n : List ℕ) (xs ys : List (List ℕ)) → is_in n ys ≡ true → is_in n (xs ++ ys) ≡ true
in_back n [] ys e = e
in_back n (m ∷ xs) ys e = elim (bytes_eq m n) as (λ v. (v || is_in n (xs ++ ys)) ≡ true) [
  | true ↦ refl
  | false ↦ in_back n xs ys e
]

pub in_neither : (n : List ℕ) (xs ys : List (List ℕ)) → is_in n (xs ++ ys) ≡ false → (is_in n xs ≡ false) × (is_in n ys ≡ false)
in_neither n [] ys e = (refl, e)
in_neither n (m ∷ xs) ys e = elim (bytes_eq m n) as (λ v. (v || is_in n (xs ++ ys)) ≡ false → ((v || is_in n xs) ≡ false) × (is_in n ys ≡ false)) [
  | true ↦ λ h. absurd (cc)
  | false ↦ λ h. in_neither n xs ys h
] e

pub united_back : (n : List ℕ) (xs ys : List (List ℕ)) → is_in n ys ≡ true → is_in n (united xs ys) ≡ true
united_back n [] ys e = e
united_back n (m ∷ xs) ys e = by_test (united_back n xs ys e) (is_in m ys) where
  by_test : is_in n (united xs ys) ≡ true → (x : Bool) → is_in n (if x then united xs ys else m ∷ united xs ys) ≡ true
  by_test more true = more
  by_test more false = in_back n (m ∷ []) (united xs ys) more

pub united_front : (n : List ℕ) (xs ys : List (List ℕ)) → is_in n xs ≡ true → is_in n (united xs ys) ≡ true
united_front n [] ys e = absurd (cc)
united_front n (m ∷ xs) ys e = by_tests (united_front n xs ys) (is_in m ys) (bytes_eq m n) refl refl e where
  by_tests : (is_in n xs ≡ true → is_in n (united xs ys) ≡ true) → (x y : Bool) → is_in m ys ≡ x → bytes_eq m n ≡ y → (y || is_in n xs) ≡ true
      → is_in n (if x then united xs ys else m ∷ united xs ys) ≡ true
  by_tests more true true p q e = united_back n xs ys (subst (λ (k : List ℕ). is_in k ys ≡ true) (names_equal m n q) p)
  by_tests more true false p q e = more e
  by_tests more false true p q e = rw q refl
  by_tests more false false p q e = rw q (more e)

pub united_neither : (n : List ℕ) (xs ys : List (List ℕ)) → is_in n (united xs ys) ≡ false → (is_in n xs ≡ false) × (is_in n ys ≡ false)
united_neither n xs ys e = (by_test (is_in n xs) refl, by_back (is_in n ys) refl) where
  by_test : (x : Bool) → is_in n xs ≡ x → x ≡ false
  by_test false p = refl
  by_test true p = let h : is_in n (united xs ys) ≡ true = united_front n xs ys p in absurd (cc)

  by_back : (x : Bool) → is_in n ys ≡ x → x ≡ false
  by_back false p = refl
  by_back true p = let h : is_in n (united xs ys) ≡ true = united_back n xs ys p in absurd (cc)

pub apart_in : (n : List ℕ) (xs ys : List (List ℕ)) → apart xs ys ≡ true → is_in n xs ≡ true → is_in n ys ≡ false
apart_in n [] ys a e = absurd (cc)
apart_in n (m ∷ xs) ys a e = by_tests (apart_in n xs ys) (is_in m ys) (bytes_eq m n) refl refl a e where
  by_tests : (apart xs ys ≡ true → is_in n xs ≡ true → is_in n ys ≡ false) → (x y : Bool) → is_in m ys ≡ x → bytes_eq m n ≡ y → (not x && apart xs ys) ≡ true → (y || is_in n xs) ≡ true → is_in n ys ≡ false
  by_tests more true y p q a e = absurd (cc)
  by_tests more false true p q a e = subst (λ (k : List ℕ). is_in k ys ≡ false) (names_equal m n q) p
  by_tests more false false p q a e = more a e

pub apart_back : (n : List ℕ) (xs ys : List (List ℕ)) → apart xs ys ≡ true → is_in n ys ≡ true → is_in n xs ≡ false
apart_back n xs ys a e = by_test (is_in n xs) refl where
  by_test : (x : Bool) → is_in n xs ≡ x → x ≡ false
  by_test false p = refl
  by_test true p = let h : is_in n ys ≡ false = apart_in n xs ys a p in absurd (cc)

pub distinct_first : (n : List ℕ) (ns : List (List ℕ)) → distinct (n ∷ ns) ≡ true → (is_in n ns ≡ false) × (distinct ns ≡ true)
distinct_first n ns once = by_test (is_in n ns) refl once where
  by_test : (x : Bool) → is_in n ns ≡ x → (not x && distinct ns) ≡ true → (is_in n ns ≡ false) × (distinct ns ≡ true)
  by_test true e once = absurd (cc)
  by_test false e once = (e, once)

pub distinct_both : (xs ys : List (List ℕ)) → distinct (xs ++ ys) ≡ true → (distinct xs ≡ true) × (distinct ys ≡ true) × (apart xs ys ≡ true)
distinct_both [] ys once = (refl, once, refl)
distinct_both (m ∷ xs) ys once =
    let first = distinct_first m (xs ++ ys) once in
    let both = distinct_both xs ys first.1 in
    let neither = in_neither m xs ys first.0 in
    (rw (neither.0) both.0, both.1, rw (neither.1) both.2)

-- ---- the values of the members under a name

abbrev pub Pairs : Type 0
Pairs = List (List ℕ × Tree)

pub named_append : (n : List ℕ) (xs ys : Pairs) → values_named n (members_of (xs ++ ys)) ≡ values_named n (members_of xs) ++ values_named n (members_of ys)
named_append n [] ys = refl
named_append n (m ∷ xs) ys =
    elim (bytes_eq m.0 n) as (λ v. cond v (m.1 ∷ values_named n (members_of (xs ++ ys))) (values_named n (members_of (xs ++ ys)))
    ≡ cond v (m.1 ∷ values_named n (members_of xs)) (values_named n (members_of xs)) ++ values_named n (members_of ys)) [
      | true ↦ ap (λ (ts : List Tree). m.1 ∷ ts) (named_append n xs ys)
      | false ↦ named_append n xs ys
    ]

pub named_this : (n : List ℕ) (t : Tree) (ys : Pairs) → values_named n (members_of ((n, t) ∷ ys)) ≡ t ∷ values_named n (members_of ys)
named_this n t ys = rw (same_name n) refl

pub named_other : (m n : List ℕ) (t : Tree) (ys : Pairs) → bytes_eq m n ≡ false → values_named n (members_of ((m, t) ∷ ys)) ≡ values_named n (members_of ys)
named_other m n t ys e = rw e refl

pub not_only : (m n : List ℕ) → is_in n (m ∷ []) ≡ false → bytes_eq m n ≡ false
not_only m n e = by_test (bytes_eq m n) e where
  by_test : (b : Bool) → (b || false) ≡ false → b ≡ false
  by_test true e = absurd (cc)
  by_test false e = refl

pub is_only : (n : List ℕ) → is_in n (n ∷ []) ≡ true
is_only n = rw (same_name n) refl

-- ---- members that were written under names

pub under_one : (n : List ℕ) (t : Tree) → Under (n ∷ []) ((n, t) ∷ [])
under_one n t = λ m other. named_other n m t [] (not_only n m other)

pub has_one : (n : List ℕ) (ms : Members) (t : Tree) → t ≢ null → Agrees (n ∷ []) ms ((n, t) ∷ []) → Has ms n t
has_one n ms t there agrees = (agrees n (is_only n) ∙ named_this n t [], there)

pub under_both : (xs ys : List (List ℕ)) (a b : Pairs) → Under xs a → Under ys b → Under (xs ++ ys) (a ++ b)
under_both xs ys a b of_xs of_ys = λ n other.
    let neither = in_neither n xs ys other in
    named_append n a b ∙ ap (λ (ts : List Tree). ts ++ values_named n (members_of b)) (of_xs n neither.0) ∙ of_ys n neither.1

-- if an object agrees with two consecutive lists of written members, it agrees with each of them
pub agrees_each : (xs ys : List (List ℕ)) (ms : Members) (a b : Pairs) → apart xs ys ≡ true → Under xs a → Under ys b → Agrees (xs ++ ys) ms (a ++ b)
    → Agrees xs ms a × Agrees ys ms b
agrees_each xs ys ms a b differ of_xs of_ys agrees = (
  (λ n named. agrees n (in_front n xs ys named)
      ∙ named_append n a b
      ∙ ap (λ (ts : List Tree). values_named n (members_of a) ++ ts) (of_ys n (apart_in n xs ys differ named))
      ∙ append-nil _),
  (λ n named. agrees n (in_back n xs ys named)
      ∙ named_append n a b
      ∙ ap (λ (ts : List Tree). ts ++ values_named n (members_of b)) (of_xs n (apart_back n xs ys differ named))),
)
