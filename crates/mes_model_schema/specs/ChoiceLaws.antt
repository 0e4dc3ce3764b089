-- The laws of the row `type` and of the rows that depend on it.
use Rattle.std.proofs.Common.{◌≡◌, ◌≢◌, ◌⊎◌, inl, inr, ℕ, ◌+◌, ◌<◌, ◌≤◌, max, Bool, true, false, List, [], ◌∷◌, length, refl, ◌∙◌, ap, subst, cond, bytes_eq, arith, length-append}
use Rattle.std.proofs.lemmas.Bool.{cases_lt}
use Rattle.std.specs.Prelude.{◌||◌, ◌&&◌, not, Ok, Err}
use Rattle.mes_json.specs.Tree.{Tree, Members}
use Rattle.mes_json.specs.Tree.Tree.{string}
use Rattle.mes_json.specs.View.{members_of}
use Rattle.mes_model_schema.specs.Paths.{Place}
use Rattle.mes_model_schema.specs.Paths.Place.{name}
use Rattle.mes_model_schema.specs.Fields.{values_named, is_in, Has, below, lookup}
use Rattle.mes_model_schema.specs.Kinds.{◌>>=◌}
use Rattle.mes_model_schema.specs.Leaves.{texts}
use Rattle.mes_model_schema.specs.Rows.{Table, must, required, need}
use Rattle.mes_model_schema.specs.Choices.{Choice, type_name, no_other, others, case, typed}
use Rattle.mes_model_schema.specs.FieldLaws.{bound, after, broken, breaks_first, has_looked, lacks_looked, looked}
use Rattle.mes_model_schema.specs.NameLaws.{distinct, distinct_both, Agrees, Under, Pairs, names_equal, names_differ, same_name, united, united_front, united_back, united_neither, under_one, has_one, under_both, agrees_each}
use Rattle.mes_model_schema.specs.StepLaws.{SomeRead, SomeDeep, fault_there}
use Rattle.mes_model_schema.specs.KindLaws.{text_is, lawful_texts}
use Rattle.mes_model_schema.specs.RowLaws.{LawfulTable, lawful_need}
use Rattle.mes_model_schema.specs.declared.field.FieldFault.{FieldFault}
use Rattle.mes_model_schema.specs.declared.field.FieldFaultKind.{FieldFaultKind}
use Rattle.mes_model_schema.specs.declared.field.FieldFaultKind.TheVariants.{Missing}

pub record LawfulChoice {F : Type 0} (c : Choice F) (steps : ℕ) : Type 0 where
  -- at any path, `read` returns x if and only if `Reads` relates the type and the members to x
  pub sound : (at : List Place) (kind : List ℕ) (ms : Members) (x : F) → c.read at kind ms ≡ Ok x → c.Reads kind ms x
  pub complete : (at : List Place) (kind : List ℕ) (ms : Members) (x : F) → c.Reads kind ms x → c.read at kind ms ≡ Ok x
  -- x is read back from the members that it is written as, if the types are distinct and the member
  -- names of each type are distinct
  pub back : (ms : Members) (x : F) → c.reported_apart ≡ true → Agrees c.names ms (c.members x) → c.Back x → c.Reads (c.type_of x) ms x
  -- no member is written under a name that no type has
  pub only : (n : List ℕ) (x : F) → is_in n c.names ≡ false → values_named n (members_of (c.members x)) ≡ []
  -- a written value has one of the known types
  pub known : (x : F) → c.Back x → c.takes (c.type_of x) ≡ true
  -- faults are at most max 1 steps below the object, and if steps ≥ 2 some fault is that deep
  pub within : (at : List Place) (kind : List ℕ) (ms : Members) (f : FieldFault) → c.read at kind ms ≡ Err f → length f.path ≤ length at + max 1 steps
  pub reached : c.reported_apart ≡ true → 2 ≤ steps → (kind : List ℕ) × (c.takes kind ≡ true) × SomeDeep c.names (λ at ms. c.read at kind ms) steps

pub lawful_no_other : {why : FieldFaultKind} → LawfulChoice (no_other why) 0
lawful_no_other {why = why} = record {
  sound = λ at kind ms x e. absurd x;
  complete = λ at kind ms x h. absurd x;
  back = λ ms x once agrees returns. absurd x;
  only = λ n x other. absurd x;
  known = λ x. absurd x;
  within = λ at kind ms f e. omega (arith, fault_there (below at type_name) why f e, length-append at (name type_name ∷ []));
  reached = λ once any. absurd (omega (arith, any));
}

pub lawful_others : (known : List (List ℕ)) → LawfulChoice (others known) 0
lawful_others known = record {
  sound = λ at kind ms x e. cc;
  complete = λ at kind ms x h. ap (λ (n : List ℕ). Ok n) h;
  back = λ ms x once agrees returns. refl;
  only = λ n x other. refl;
  known = λ x returns. ap not returns;
  within = λ at kind ms f e. absurd (cc);
  reached = λ once any. absurd (omega (arith, any));
}

not_both : (a b : Bool) → (not a && b) ≡ true → (a ≡ false) × (b ≡ true)
not_both true b e = absurd (cc)
not_both false b e = (refl, e)

both : (a b : Bool) → (a && b) ≡ true → (a ≡ true) × (b ≡ true)
both true b e = (refl, e)
both false b e = absurd (cc)

each_once : (a b c : Bool) → (not a && (b && c)) ≡ true → (a ≡ false) × (b ≡ true) × (c ≡ true)
each_once a b c e =
    let first = not_both a (b && c) e in
    let second = both b c first.1 in
    (first.0, second.0, second.1)

or_back : (a b : Bool) → b ≡ true → (a || b) ≡ true
or_back true b e = refl
or_back false b e = e

-- the law of a choice, whose number of steps is the maximum over its types
pub lawful_case : {F G : Type 0} {this : List ℕ} {r : Table F} {rest : Choice G} {a b : ℕ} → LawfulTable r a → LawfulChoice rest b
    → LawfulChoice (case this r rest) (max a b)
lawful_case {F = F} {G = G} {this = this} {r = r} {rest = rest} {a = a} {b = b} lr lrest = record {
  sound = λ at kind ms x e. sound at kind ms x (bytes_eq kind this) refl e;
  complete = complete;
  back = back;
  only = only;
  known = known;
  within = λ at kind ms f e. within at kind ms f (bytes_eq kind this) e;
  reached = λ once any.
      let each = each_once (rest.takes this) (distinct r.names) rest.reported_apart once in
      elim (cases_lt a b) [
        | inl less ↦ in_rest each.0 each.2 less any
        | inr most ↦ in_this each.1 most any
      ];
} where
  sound : (at : List Place) (kind : List ℕ) (ms : Members) (x : F ⊎ G) (b : Bool) → bytes_eq kind this ≡ b
      → cond b (r.read at ms >>= λ a. Ok (inl a)) (rest.read at kind ms >>= λ a. Ok (inr a)) ≡ Ok x → (case this r rest).Reads kind ms x
  sound at kind ms (inl x) true is e =
      let one = bound (r.read at ms) _ _ e in
      let same = one.2 in (names_equal kind this is, lr.sound at ms x (one.1 ∙ cc))
  sound at kind ms (inr y) true is e =
      let one = bound (r.read at ms) _ _ e in
      let bad = one.2 in absurd (cc)
  sound at kind ms (inl x) false is e =
      let one = bound (rest.read at kind ms) _ _ e in
      let bad = one.2 in absurd (cc)
  sound at kind ms (inr y) false is e =
      let one = bound (rest.read at kind ms) _ _ e in
      let same = one.2 in (differ is, lrest.sound at kind ms y (one.1 ∙ cc)) where
        differ : bytes_eq kind this ≡ false → kind ≢ this
        differ is e = let yes_same : bytes_eq kind this ≡ true = subst (λ (n : List ℕ). bytes_eq kind n ≡ true) e (same_name kind) in absurd (cc)

  complete : (at : List Place) (kind : List ℕ) (ms : Members) (x : F ⊎ G) → (case this r rest).Reads kind ms x → (case this r rest).read at kind ms ≡ Ok x
  complete at kind ms (inl x) h = rw (h.0, same_name this) (after _ _ x (lr.complete at ms x h.1))
  complete at kind ms (inr y) h = rw (names_differ kind this h.0) (after _ _ y (lrest.complete at kind ms y h.1))

  -- a type that the other rows take differs from `this`
  other : (kind : List ℕ) → rest.takes this ≡ false → rest.takes kind ≡ true → kind ≢ this
  other kind new taken = λ e. let bad : rest.takes this ≡ true = subst (λ (n : List ℕ). rest.takes n ≡ true) e taken in absurd (cc)

  back : (ms : Members) (x : F ⊎ G) → (not (rest.takes this) && (distinct r.names && rest.reported_apart)) ≡ true
      → Agrees (united r.names rest.names) ms ((case this r rest).members x) → (case this r rest).Back x
      → (case this r rest).Reads ((case this r rest).type_of x) ms x
  back ms (inl x) once agrees returns =
      let each = each_once (rest.takes this) (distinct r.names) rest.reported_apart once in
      (refl, lr.back ms x each.1 (λ n named. agrees n (united_front n r.names rest.names named)) returns)
  back ms (inr y) once agrees returns =
      let each = each_once (rest.takes this) (distinct r.names) rest.reported_apart once in (
        other (rest.type_of y) each.0 (lrest.known y returns),
        lrest.back ms y each.2 (λ n named. agrees n (united_back n r.names rest.names named)) returns,
      )

  only : (n : List ℕ) (x : F ⊎ G) → is_in n (united r.names rest.names) ≡ false → values_named n (members_of ((case this r rest).members x)) ≡ []
  only n (inl x) other = lr.only n x (united_neither n r.names rest.names other).0
  only n (inr y) other = lrest.only n y (united_neither n r.names rest.names other).1

  known : (x : F ⊎ G) → (case this r rest).Back x → (bytes_eq this ((case this r rest).type_of x) || rest.takes ((case this r rest).type_of x)) ≡ true
  known (inl x) returns = rw (same_name this) refl
  known (inr y) returns = or_back (bytes_eq this (rest.type_of y)) (rest.takes (rest.type_of y)) (lrest.known y returns)

  within : (at : List Place) (kind : List ℕ) (ms : Members) (f : FieldFault) (same : Bool)
      → cond same (r.read at ms >>= λ x. Ok (inl x)) (rest.read at kind ms >>= λ y. Ok (inr y)) ≡ Err f → length f.path ≤ length at + max 1 (max a b)
  within at kind ms f true e = elim (broken (r.read at ms) _ f e) [
    | inl h ↦ omega (arith, lr.within at ms f h)
    | inr h ↦ let bad = h.2 in absurd (cc)
  ]
  within at kind ms f false e = elim (broken (rest.read at kind ms) _ f e) [
    | inl h ↦ omega (arith, lrest.within at kind ms f h)
    | inr h ↦ let bad = h.2 in absurd (cc)
  ]

  in_this : distinct r.names ≡ true → b ≤ a → 2 ≤ max a b
      → (kind : List ℕ) × ((case this r rest).takes kind ≡ true) × SomeDeep (case this r rest).names (λ at ms. (case this r rest).read at kind ms) (max a b)
  in_this once most any =
      let deep = lr.reached once (omega (arith, most, any)) in (
        this,
        rw (same_name this) refl,
        (
          deep.0,
          (λ n named. deep.1 n (united_neither n r.names rest.names named).0),
          (λ at ms agrees.
              let one = deep.2 at ms (λ n named. agrees n (united_front n r.names rest.names named)) in
              (one.0, rw (same_name this) (breaks_first (r.read at ms) _ one.0 one.1), omega (arith, one.2, most))),
        ),
      )

  in_rest : rest.takes this ≡ false → rest.reported_apart ≡ true → a < b → 2 ≤ max a b
      → (kind : List ℕ) × ((case this r rest).takes kind ≡ true) × SomeDeep (case this r rest).names (λ at ms. (case this r rest).read at kind ms) (max a b)
  in_rest new once less any =
      let under = lrest.reached once (omega (arith, less, any)) in
      let deep = under.2 in (
        under.0,
        or_back (bytes_eq this under.0) (rest.takes under.0) under.1,
        (
          deep.0,
          (λ n named. deep.1 n (united_neither n r.names rest.names named).1),
          (λ at ms agrees.
              let one = deep.2 at ms (λ n named. agrees n (united_back n r.names rest.names named)) in (
                one.0,
                rw (names_differ under.0 this (other under.0 new under.1)) (breaks_first (rest.read at under.0 ms) _ one.0 one.1),
                omega (arith, one.2, less),
              )),
        ),
      )

-- ---- the law of the row `type` with the rows of the types

-- some members are read as a value, under some type
abbrev SomeType : {F : Type 0} → Choice F → Type 0
SomeType c = (kind : List ℕ) × SomeRead c.names (c.Reads kind)

-- if the object has the written member `type` and the other written members, it agrees with each
beside : (names : List (List ℕ)) (kind : List ℕ) (ms : Members) (own : Pairs) → distinct (type_name ∷ names) ≡ true → Under names own
    → Agrees (type_name ∷ names) ms ((type_name, string kind) ∷ own) → Has ms type_name (string kind) × Agrees names ms own
beside names kind ms own once under agrees =
    let differ = (distinct_both (type_name ∷ []) names once).2 in
    let each = agrees_each (type_name ∷ []) names ms ((type_name, string kind) ∷ []) own differ (under_one type_name (string kind)) under agrees in
    (has_one type_name ms (string kind) (λ e. absurd (cc)) each.0, each.1)

with_type : (names : List (List ℕ)) (kind : List ℕ) (own : Pairs) → Under names own → Under (type_name ∷ names) ((type_name, string kind) ∷ own)
with_type names kind own under = under_both (type_name ∷ []) names ((type_name, string kind) ∷ []) own (under_one type_name (string kind)) under

typed_rows : {F : Type 0} {c : Choice F} {steps : ℕ} → LawfulChoice c steps → c.reported_apart ≡ true → SomeType c → LawfulTable (typed c) (max 1 steps)
unfolding texts required
typed_rows {F = F} {c = c} {steps = steps} lc once_each some = record {
  sound = λ at ms x e.
      let one = bound (lookup at type_name ms >>= must texts (below at type_name)) (λ kind. c.read at kind ms) x e in
      (one.0, has_type at ms one.0 one.1, lc.sound at one.0 ms x one.2);
  complete = λ at ms x h. rw (has_looked at type_name ms (string h.0) h.1) (lc.complete at h.0 ms x h.2);
  back = λ ms x once agrees returns.
      let each = beside c.names (c.type_of x) ms (c.members x) once (λ n. lc.only n x) agrees in
      (c.type_of x, each.0, lc.back ms x once_each each.1 returns);
  only = λ n x other. with_type c.names (c.type_of x) (c.members x) (λ m. lc.only m x) n other;
  sample = λ once.
      let kind = some.0 in
      let rest = some.1 in (
        (type_name, string kind) ∷ rest.0,
        with_type c.names kind rest.0 rest.1,
        (λ ms agrees.
            let each = beside c.names kind ms rest.0 once rest.1 agrees in
            let x = rest.2 ms each.1 in
            (x.0, (kind, each.0, x.1))),
      );
  within = within;
  reached = λ once any. elim (cases_lt steps 2) [
    | inl less ↦ no_type less
    | inr most ↦ in_value once most
  ];
} where
  has_type : (at : List Place) (ms : Members) (kind : List ℕ) → (lookup at type_name ms >>= must texts (below at type_name)) ≡ Ok kind
      → Has ms type_name (string kind)
  has_type at ms kind e = elim (looked at type_name ms (must texts (below at type_name)) kind e) [
    | inl h ↦ let bad = h.1 in absurd (cc)
    | inr h ↦ subst (λ (t : Tree). Has ms type_name t) (text_is (below at type_name) h.0 kind h.2) h.1
  ]

  own_row : LawfulTable (need type_name texts) 1
  own_row = lawful_need lawful_texts

  within : (at : List Place) (ms : Members) (f : FieldFault) → (typed c).read at ms ≡ Err f → length f.path ≤ length at + max 1 steps
  within at ms f e = elim (broken (required type_name texts at ms) (λ kind. c.read at kind ms) f e) [
    | inl h ↦ omega (arith, own_row.within at ms f h)
    | inr h ↦ lc.within at h.0 ms f h.2
  ]

  no_type : steps < 2 → SomeDeep (typed c).names (typed c).read (max 1 steps)
  no_type less = (
    [],
    (λ n other. refl),
    (λ at ms agrees. (
      record { path = below at type_name; why = Missing },
      rw (lacks_looked at type_name ms (inl (agrees type_name refl))) refl,
      omega (arith, less, length-append at (name type_name ∷ [])),
    )),
  )

  in_value : distinct (type_name ∷ c.names) ≡ true → 2 ≤ steps → SomeDeep (typed c).names (typed c).read (max 1 steps)
  in_value once most =
      let deep = lc.reached once_each most in
      let kind = deep.0 in
      let rest = deep.2 in (
        (type_name, string kind) ∷ rest.0,
        with_type c.names kind rest.0 rest.1,
        (λ at ms agrees.
            let each = beside c.names kind ms rest.0 once rest.1 agrees in
            let one = rest.2 at ms each.1 in
            (one.0, after _ _ kind (own_row.complete at ms kind (string kind, each.0, refl)) ∙ one.1, omega (arith, one.2, most))),
      )

-- the law of the row `type` with the rows of the types, if the types are distinct and the member
-- names of each type are distinct
pub lawful_typed : {F G : Type 0} {this : List ℕ} {r : Table F} {rest : Choice G} {a b : ℕ} → LawfulTable r a → LawfulChoice rest b
    → (case this r rest).reported_apart ≡ true → LawfulTable (typed (case this r rest)) (max 1 (max a b))
lawful_typed {F = F} {G = G} {this = this} {r = r} {rest = rest} lr lrest once_each = typed_rows (lawful_case lr lrest) once_each some where
  first : SomeRead r.names r.Reads
  first = lr.sample (each_once (rest.takes this) (distinct r.names) rest.reported_apart once_each).1

  some : SomeType (case this r rest)
  some = (
    this,
    (
      first.0,
      (λ n other. first.1 n (united_neither n r.names rest.names other).0),
      (λ ms agrees. let x = first.2 ms (λ n named. agrees n (united_front n r.names rest.names named)) in (inl x.0, (refl, x.1))),
    ),
  )
