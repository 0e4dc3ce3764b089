-- The stored lengths of arrays and objects on a tape are correct.
use Rattle.std.proofs.Common.{◌≡◌, ◌≢◌, ℕ, zero, suc, ◌+◌, ◌-◌, List, [], ◌∷◌, ◌++◌, length, drop, map, set, get_or, Option, Some, None, refl, ap, sym, ◌∙◌, subst, arith, append_assoc, length-append}
use Rattle.std.proofs.lemmas.List.{map-append}
use Rattle.std.proofs.Math.Seq.{map-set_same, get_or-append_seam, set-append_seam}
use Rattle.std.specs.List.{AllByRecursion}
use Rattle.mes_json.specs.Tokens.{Token}
use Rattle.mes_json.specs.Tape.{HasSpan}
use Rattle.mes_json.specs.Cursor.{token_of, tokens_held}
use Rattle.mes_json.specs.Passing.{following}
use Rattle.mes_json.specs.Lengths.{reported, unreported, telling, HasRest, TellsTruth, TellLengths, IsLeaf, IsWhole, AreBegun}
use Rattle.mes_json.specs.declared.tape.Node.{Node}
use Rattle.mes_json.specs.declared.tape.Node.TheVariants.{Null, Bool, Number, Text, Name, List as list, Map, End}

none_some : {m : ℕ} {T : Type 0} → (let none : Option ℕ = None in none ≡ Some m) → T
none_some h = absurd (never h) where
  never : {m : ℕ} → (let none : Option ℕ = None in none ≡ Some m) → ⊥
  never h = cc

some_none : {m : ℕ} {T : Type 0} → (let none : Option ℕ = None in Some m ≡ none) → T
some_none h = none_some (sym h)

some_same : {a b : ℕ} → Some a ≡ Some b → a ≡ b
some_same h = cc

tells_none : (x : Node) (xs : List Node) → reported x ≡ Some 0 → ((texts : List ℕ) → following 0 (tokens_held texts (x ∷ xs)) ≡ tokens_held texts xs) → TellsTruth x xs
tells_none x xs is one m also =
    let same : 0 ≡ m = some_same (sym is ∙ also) in
    rw (← same) (record { inside = omega arith; ends = one })

tells_leaf : (x : Node) (xs : List Node) → IsLeaf x → TellsTruth x xs
tells_leaf Null xs h = tells_none Null xs refl (λ texts. refl)
tells_leaf (Bool b) xs h = tells_none (Bool b) xs refl (λ texts. refl)
tells_leaf (Number from to) xs h = tells_none (Number from to) xs refl (λ texts. refl)
tells_leaf (Text from to) xs h = tells_none (Text from to) xs refl (λ texts. refl)
tells_leaf (Name from to) xs h = tells_none (Name from to) xs refl (λ texts. refl)
tells_leaf (list n) xs h = absurd h
tells_leaf (Map n) xs h = absurd h
tells_leaf End xs h = absurd h

tells_end : (xs : List Node) → TellsTruth End xs
tells_end xs = tells_none End xs refl (λ texts. refl)

tells_nothing : (x : Node) (xs : List Node) → reported x ≡ None → TellsTruth x xs
tells_nothing x xs none m is = none_some (sym none ∙ is)

-- lists of nodes after which no array or object begun in the list is open
whole_none : IsWhole []
whole_none = record { reports = λ ys h. h; passes = λ texts n ts. refl }

whole_append : (xs ys : List Node) → IsWhole xs → IsWhole ys → IsWhole (xs ++ ys)
whole_append xs ys a b = record {
  reports = λ zs h. subst TellLengths (sym (append_assoc xs ys zs)) (a.reports (ys ++ zs) (b.reports zs h));
  passes = λ texts n ts. ap (λ (us : List Token). following (suc n) (us ++ ts)) (map-append (token_of texts) xs ys)
      ∙ ap (following (suc n)) (append_assoc (tokens_held texts xs) (tokens_held texts ys) ts)
      ∙ a.passes texts n (tokens_held texts ys ++ ts) ∙ b.passes texts n ts;
}

leaf_passed : (x : Node) → IsLeaf x → (texts : List ℕ) (n : ℕ) (ts : List Token) → following (suc n) (token_of texts x ∷ ts) ≡ following (suc n) ts
leaf_passed Null h texts n ts = refl
leaf_passed (Bool b) h texts n ts = refl
leaf_passed (Number from to) h texts n ts = refl
leaf_passed (Text from to) h texts n ts = refl
leaf_passed (Name from to) h texts n ts = refl
leaf_passed (list m) h texts n ts = absurd h
leaf_passed (Map m) h texts n ts = absurd h
leaf_passed End h texts n ts = absurd h

whole_leaf : (x : Node) → IsLeaf x → IsWhole (x ∷ [])
whole_leaf x h = record { reports = λ ys more. (tells_leaf x ys h, more); passes = leaf_passed x h }

-- the tokens of the contents of an array or object and of its end, and then the tokens ts
abbrev closed_tokens : List ℕ → List Node → List Token → List Token
closed_tokens texts inner ts = tokens_held texts inner ++ Token.ends ∷ ts

closed_is : (texts : List ℕ) (inner : List Node) (ts : List Token) → tokens_held texts (inner ++ End ∷ []) ++ ts ≡ closed_tokens texts inner ts
closed_is texts inner ts =
    ap (λ (us : List Token). us ++ ts) (map-append (token_of texts) inner (End ∷ [])) ∙ append_assoc (tokens_held texts inner) (Token.ends ∷ []) ts

closed_over : (texts : List ℕ) (inner : List Node) (n : ℕ) (ts : List Token) → IsWhole inner → following (suc (suc n)) (closed_tokens texts inner ts) ≡ following (suc n) ts
closed_over texts inner n ts whole = whole.passes texts (suc n) (Token.ends ∷ ts)

-- n is 0 (unknown), or the correct length of an array or object with the contents `inner`
abbrev IsClosedBy : ℕ → List Node → Type 0
IsClosedBy n inner = n ≢ 0 → n ≡ length inner + 1

behind_first : (texts : List ℕ) (inner ys : List Node) → tokens_held texts ys ≡ drop (suc (length inner)) (tokens_held texts ((inner ++ End ∷ []) ++ ys))
behind_first texts [] ys = refl
behind_first texts (x ∷ inner) ys = behind_first texts inner ys

one_more : {n m : ℕ} → n ≡ m + 1 → n ≡ suc m
one_more is = omega (arith, is)

rest_closed : (n : ℕ) (x : Node) (inner ys : List Node) → ((texts : List ℕ) (us : List Token) → following 0 (token_of texts x ∷ us) ≡ following 1 us) → IsWhole inner
    → n ≡ length inner + 1 → HasRest n x ((inner ++ End ∷ []) ++ ys)
rest_closed n x inner ys opens whole is = record {
  inside = omega (arith, is, length-append (inner ++ End ∷ []) ys, length-append inner (End ∷ []));
  ends = λ texts. opens texts (tokens_held texts ((inner ++ End ∷ []) ++ ys))
      ∙ ap (following 1) (map-append (token_of texts) (inner ++ End ∷ []) ys ∙ closed_is texts inner (tokens_held texts ys))
      ∙ whole.passes texts 0 (Token.ends ∷ tokens_held texts ys)
      ∙ behind_first texts inner ys ∙ ap (λ (m : ℕ). drop m (tokens_held texts ((inner ++ End ∷ []) ++ ys))) (sym (one_more is));
}

tells_array : (n : ℕ) (inner ys : List Node) → IsWhole inner → IsClosedBy n inner → TellsTruth (list n) ((inner ++ End ∷ []) ++ ys)
tells_array zero inner ys whole known m is = none_some is
tells_array (suc n) inner ys whole known m is =
    rw (← some_same is) (rest_closed (suc n) (list (suc n)) inner ys (λ texts us. refl) whole (known (omega arith)))

tells_object : (n : ℕ) (inner ys : List Node) → IsWhole inner → IsClosedBy n inner → TellsTruth (Map n) ((inner ++ End ∷ []) ++ ys)
tells_object zero inner ys whole known m is = none_some is
tells_object (suc n) inner ys whole known m is =
    rw (← some_same is) (rest_closed (suc n) (Map (suc n)) inner ys (λ texts us. refl) whole (known (omega arith)))

inside_tells : (inner ys : List Node) → IsWhole inner → TellLengths ys → TellLengths ((inner ++ End ∷ []) ++ ys)
inside_tells inner ys whole more =
    subst TellLengths (sym (append_assoc inner (End ∷ []) ys)) (whole.reports (End ∷ ys) (tells_end ys, more))

whole_closed : (n : ℕ) (x : Node) (inner : List Node) → reported x ≡ None → IsWhole inner → IsClosedBy n inner → IsWhole (telling n x ∷ (inner ++ End ∷ []))
whole_closed n Null inner none whole known = some_none none
whole_closed n (Bool b) inner none whole known = some_none none
whole_closed n (Number from to) inner none whole known = some_none none
whole_closed n (Text from to) inner none whole known = some_none none
whole_closed n (Name from to) inner none whole known = some_none none
whole_closed n (list m) inner none whole known = record {
  reports = λ ys more. (tells_array n inner ys whole known, inside_tells inner ys whole more);
  passes = λ texts k ts. ap (following (suc (suc k))) (closed_is texts inner ts) ∙ closed_over texts inner k ts whole;
}
whole_closed n (Map m) inner none whole known = record {
  reports = λ ys more. (tells_object n inner ys whole known, inside_tells inner ys whole more);
  passes = λ texts k ts. ap (following (suc (suc k))) (closed_is texts inner ts) ∙ closed_over texts inner k ts whole;
}
whole_closed n End inner none whole known = some_none none

begun_more : (places : List ℕ) (xs ys : List Node) → AreBegun places xs → IsWhole ys → AreBegun places (xs ++ ys)
begun_more [] xs ys h whole = λ zs more. subst TellLengths (sym (append_assoc xs ys zs)) (h (ys ++ zs) (whole.reports zs more))
begun_more (place ∷ places) xs ys h whole = record {
  outer = h.outer;
  first = h.first;
  inner = h.inner ++ ys;
  is = ap (λ (us : List Node). us ++ ys) h.is ∙ append_assoc h.outer (h.first ∷ h.inner) ys;
  begins = h.begins;
  unknown = h.unknown;
  whole = whole_append h.inner ys h.whole whole;
  before = h.before;
}

pub begun_leaf : (places : List ℕ) (xs : List Node) (x : Node) → AreBegun places xs → IsLeaf x → AreBegun places (xs ++ x ∷ [])
begun_leaf places xs x h leaf = begun_more places xs (x ∷ []) h (whole_leaf x leaf)

pub begun_tells : (places : List ℕ) (xs ys : List Node) → AreBegun places xs → TellLengths ys → TellLengths (xs ++ ys)
begun_tells [] xs ys h more = h ys more
begun_tells (place ∷ places) xs ys h more =
    subst TellLengths (sym (append_assoc h.outer (h.first ∷ h.inner) ys) ∙ ap (λ (us : List Node). us ++ ys) (sym h.is))
    (begun_tells places h.outer (h.first ∷ (h.inner ++ ys)) h.before (tells_nothing h.first (h.inner ++ ys) h.unknown, h.whole.reports ys more))

pub begun_none : (places : List ℕ) (xs : List Node) → AreBegun places xs → AreBegun [] xs
begun_none places xs h ys more = begun_tells places xs ys h more

pub begun_open : (places : List ℕ) (xs : List Node) (x : Node) → AreBegun places xs → reported x ≡ None → AreBegun (length xs ∷ places) (xs ++ x ∷ [])
begun_open places xs x h none =
    record { outer = xs; first = x; inner = []; is = refl; begins = refl; unknown = none; whole = whole_none; before = h }

pub begun_end : (xs : List Node) → AreBegun [] xs → AreBegun [] (xs ++ End ∷ [])
begun_end xs h = λ ys more. subst TellLengths (sym (append_assoc xs (End ∷ []) ys)) (h (End ∷ ys) (tells_end ys, more))

pub begun_close : (n place : ℕ) (places : List ℕ) (xs : List Node) (d : Node) → AreBegun (place ∷ places) xs → (n ≢ 0 → n ≡ length xs - place)
    → AreBegun places (set xs place (telling n (get_or xs place d)) ++ End ∷ [])
begun_close n place places xs d h known =
    let at_first : get_or xs place d ≡ h.first = ap (λ (us : List Node). get_or us place d) h.is ∙ ap (λ (m : ℕ). get_or (h.outer ++ h.first ∷ h.inner) m d) h.begins
    ∙ get_or-append_seam h.outer h.first h.inner d in
    let put : set xs place (telling n (get_or xs place d)) ++ End ∷ [] ≡ h.outer ++ (telling n h.first ∷ (h.inner ++ End ∷ [])) =
    ap (λ (x : Node). set xs place (telling n x) ++ End ∷ []) at_first
    ∙ ap (λ (us : List Node). set us place (telling n h.first) ++ End ∷ []) h.is
    ∙ ap (λ (m : ℕ). set (h.outer ++ h.first ∷ h.inner) m (telling n h.first) ++ End ∷ []) h.begins
    ∙ ap (λ (us : List Node). us ++ End ∷ []) (set-append_seam h.outer h.first h.inner (telling n h.first))
    ∙ append_assoc h.outer (telling n h.first ∷ h.inner) (End ∷ []) in
    let counted : IsClosedBy n h.inner = λ some. omega (arith, known some, ap length h.is, length-append h.outer (h.first ∷ h.inner), h.begins) in
    subst (AreBegun places) (sym put)
    (begun_more places h.outer (telling n h.first ∷ (h.inner ++ End ∷ [])) h.before (whole_closed n h.first h.inner h.unknown h.whole counted))

untold_same : (n : ℕ) (x : Node) → unreported (telling n x) ≡ unreported x
untold_same n Null = refl
untold_same n (Bool b) = refl
untold_same n (Number from to) = refl
untold_same n (Text from to) = refl
untold_same n (Name from to) = refl
untold_same n (list m) = refl
untold_same n (Map m) = refl
untold_same n End = refl

pub untold_close : (n place : ℕ) (xs : List Node) (d : Node) → map unreported (set xs place (telling n (get_or xs place d)) ++ End ∷ []) ≡ map unreported xs ++ End ∷ []
untold_close n place xs d =
    map-append unreported (set xs place (telling n (get_or xs place d))) (End ∷ [])
    ∙ ap (λ (us : List Node). us ++ End ∷ []) (map-set_same unreported xs place (telling n (get_or xs place d)) d (untold_same n (get_or xs place d)))

untold_token : (texts : List ℕ) (x : Node) → token_of texts (unreported x) ≡ token_of texts x
untold_token texts Null = refl
untold_token texts (Bool b) = refl
untold_token texts (Number from to) = refl
untold_token texts (Text from to) = refl
untold_token texts (Name from to) = refl
untold_token texts (list m) = refl
untold_token texts (Map m) = refl
untold_token texts End = refl

pub untold_tokens : (texts : List ℕ) (xs : List Node) → tokens_held texts (map unreported xs) ≡ tokens_held texts xs
untold_tokens texts [] = refl
untold_tokens texts (x ∷ xs) =
    ap (λ (t : Token). t ∷ tokens_held texts (map unreported xs)) (untold_token texts x) ∙ ap (λ (ts : List Token). token_of texts x ∷ ts) (untold_tokens texts xs)

untold_span : (texts : List ℕ) (x : Node) → HasSpan texts (unreported x) → HasSpan texts x
untold_span texts Null h = h
untold_span texts (Bool b) h = h
untold_span texts (Number from to) h = h
untold_span texts (Text from to) h = h
untold_span texts (Name from to) h = h
untold_span texts (list m) h = h
untold_span texts (Map m) h = h
untold_span texts End h = h

pub untold_spans : (texts : List ℕ) (xs : List Node) → AllByRecursion (HasSpan texts) (map unreported xs) → AllByRecursion (HasSpan texts) xs
untold_spans texts [] h = tt
untold_spans texts (x ∷ xs) h = (untold_span texts x h.0, untold_spans texts xs h.1)

pub tell_from : (n : ℕ) (xs : List Node) → TellLengths xs → TellLengths (drop n xs)
tell_from zero xs h = h
tell_from (suc n) [] h = tt
tell_from (suc n) (x ∷ xs) h = tell_from n xs h.1

pub spans_from : (texts : List ℕ) (n : ℕ) (xs : List Node) → AllByRecursion (HasSpan texts) xs → AllByRecursion (HasSpan texts) (drop n xs)
spans_from texts zero xs h = h
spans_from texts (suc n) [] h = tt
spans_from texts (suc n) (x ∷ xs) h = spans_from texts n xs h.1
