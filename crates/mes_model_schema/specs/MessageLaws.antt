-- The laws of consecutive rows of a table of members, and of messages.
use Rattle.std.proofs.Common.{◌≡◌, inl, inr, ℕ, ◌+◌, ◌<◌, ◌≤◌, max, true, List, [], ◌++◌, length, refl, ◌∙◌, ap, arith}
use Rattle.std.proofs.lemmas.Bool.{cases_lt}
use Rattle.std.specs.Prelude.{Ok, Err}
use Rattle.mes_json.specs.Tree.{Members}
use Rattle.mes_json.specs.Tree.Tree.{boolean, object}
use Rattle.mes_json.specs.Cursor.{as_members}
use Rattle.mes_json.specs.View.{members_of}
use Rattle.mes_model_schema.specs.Paths.{Place}
use Rattle.mes_model_schema.specs.Kinds.{Lawful, Within, Returns}
use Rattle.mes_model_schema.specs.Leaves.{members_at}
use Rattle.mes_model_schema.specs.Rows.{Table, no_rows, ◌⨾◌, mapped, message}
use Rattle.mes_model_schema.specs.FieldLaws.{bound, after, broken, breaks_first}
use Rattle.mes_model_schema.specs.NameLaws.{distinct, distinct_both, in_front, in_neither, under_both, agrees_each}
use Rattle.mes_model_schema.specs.StepLaws.{SomeDeep, expected_there}
use Rattle.mes_model_schema.specs.KindLaws.{members_are}
use Rattle.mes_model_schema.specs.RowLaws.{LawfulTable}
use Rattle.mes_model_schema.specs.declared.field.FieldFault.{FieldFault}
use Rattle.mes_model_schema.specs.declared.field.FieldFaultKind.TheVariants.{WrongKind}

-- ---- the law of consecutive rows

pub lawful_no_rows : LawfulTable no_rows 0
lawful_no_rows = record {
  sound = λ at ms x e. tt;
  complete = λ at ms x h. refl;
  back = λ ms x once agrees returns. tt;
  only = λ n x other. refl;
  sample = λ once. ([], (λ n other. refl), (λ ms agrees. (tt, tt)));
  within = λ at ms f e. absurd (cc);
  reached = λ once any. absurd (omega (arith, any));
}

-- the law of consecutive rows, whose number of steps is the maximum of both
pub lawful_both : {F G : Type 0} {r : Table F} {s : Table G} {a b : ℕ} → LawfulTable r a → LawfulTable s b → LawfulTable (r ⨾ s) (max a b)
lawful_both {F = F} {G = G} {r = r} {s = s} {a = a} {b = b} lr ls = record {
  sound = λ at ms x e.
      let first = bound (r.read at ms) _ _ e in
      let second = bound (s.read at ms) _ _ first.2 in
      let same = second.2 in
      let x0 : first.0 ≡ x.0 = cc in
      let x1 : second.0 ≡ x.1 = cc in
      (lr.sound at ms x.0 (first.1 ∙ ap (λ (a : F). Ok a) x0), ls.sound at ms x.1 (second.1 ∙ ap (λ (b : G). Ok b) x1));
  complete = λ at ms x h. after _ _ x.0 (lr.complete at ms x.0 h.0) ∙ after _ _ x.1 (ls.complete at ms x.1 h.1);
  back = λ ms x once agrees returns.
      let names = distinct_both r.names s.names once in
      let each = agrees_each r.names s.names ms (r.members x.0) (s.members x.1) names.2 (λ n. lr.only n x.0) (λ n. ls.only n x.1) agrees in
      (lr.back ms x.0 names.0 each.0 returns.0, ls.back ms x.1 names.1 each.1 returns.1);
  only = λ n x other. under_both r.names s.names (r.members x.0) (s.members x.1) (λ m. lr.only m x.0) (λ m. ls.only m x.1) n other;
  sample = λ once.
      let names = distinct_both r.names s.names once in
      let p = lr.sample names.0 in
      let q = ls.sample names.1 in (
        p.0 ++ q.0,
        under_both r.names s.names p.0 q.0 p.1 q.1,
        (λ ms agrees.
            let each = agrees_each r.names s.names ms p.0 q.0 names.2 p.1 q.1 agrees in
            let x = p.2 ms each.0 in
            let y = q.2 ms each.1 in
            ((x.0, y.0), (x.1, y.1))),
      );
  within = within;
  reached = λ once any. elim (cases_lt a b) [
    | inl less ↦ in_second once less
    | inr most ↦ in_first once most any
  ];
} where
  within : (at : List Place) (ms : Members) (f : FieldFault) → (r ⨾ s).read at ms ≡ Err f → length f.path ≤ length at + max a b
  within at ms f e = elim (broken (r.read at ms) _ f e) [
    | inl h ↦ omega (arith, lr.within at ms f h)
    | inr h ↦ elim (broken (s.read at ms) _ f h.2) [
      | inl q ↦ omega (arith, ls.within at ms f q)
      | inr q ↦ let bad = q.2 in absurd (cc)
    ]
  ]

  in_first : distinct (r.names ++ s.names) ≡ true → b ≤ a → 1 ≤ max a b → SomeDeep (r.names ++ s.names) (r ⨾ s).read (max a b)
  in_first once most any =
      let deep = lr.reached (distinct_both r.names s.names once).0 (omega (arith, most, any)) in (
        deep.0,
        (λ n other. deep.1 n (in_neither n r.names s.names other).0),
        (λ at ms agrees.
            let one = deep.2 at ms (λ n named. agrees n (in_front n r.names s.names named)) in
            (one.0, breaks_first (r.read at ms) _ one.0 one.1, omega (arith, one.2, most))),
      )

  in_second : distinct (r.names ++ s.names) ≡ true → a < b → SomeDeep (r.names ++ s.names) (r ⨾ s).read (max a b)
  in_second once less =
      let names = distinct_both r.names s.names once in
      let p = lr.sample names.0 in
      let deep = ls.reached names.1 (omega (arith, less)) in (
        p.0 ++ deep.0,
        under_both r.names s.names p.0 deep.0 p.1 deep.1,
        (λ at ms agrees.
            let each = agrees_each r.names s.names ms p.0 deep.0 names.2 p.1 deep.1 agrees in
            let x = p.2 ms each.0 in
            let one = deep.2 at ms each.1 in
            (one.0, after _ _ x.0 (lr.complete at ms x.0 x.1) ∙ breaks_first (s.read at ms) _ one.0 one.1, omega (arith, one.2, less))),
      )

-- the law of rows whose values are converted, if the conversion has an inverse
pub lawful_mapped : {F G : Type 0} {r : Table F} {steps : ℕ} (to : F → G) (from : G → F) → LawfulTable r steps → ((y : G) → to (from y) ≡ y)
    → LawfulTable (mapped r to from) steps
lawful_mapped {F = F} {G = G} {r = r} {steps = steps} to from lr inverse = record {
  sound = λ at ms y e. let one = bound (r.read at ms) _ _ e in let same = one.2 in (one.0, lr.sound at ms one.0 one.1, cc);
  complete = λ at ms y h. after _ _ h.0 (lr.complete at ms h.0 h.1) ∙ ap (λ (z : G). Ok z) h.2;
  back = λ ms y once agrees returns. (from y, lr.back ms (from y) once agrees returns, inverse y);
  only = λ n y other. lr.only n (from y) other;
  sample = λ once.
      let some = lr.sample once in
      (some.0, some.1, (λ ms agrees. let x = some.2 ms agrees in (to x.0, (x.0, x.1, refl))));
  within = within;
  reached = λ once any.
      let deep = lr.reached once any in
      (deep.0, deep.1, (λ at ms agrees. let one = deep.2 at ms agrees in (one.0, breaks_first (r.read at ms) _ one.0 one.1, one.2)));
} where
  within : (at : List Place) (ms : Members) (f : FieldFault) → (mapped r to from).read at ms ≡ Err f → length f.path ≤ length at + steps
  within at ms f e = elim (broken (r.read at ms) _ f e) [
    | inl h ↦ lr.within at ms f h
    | inr h ↦ let bad = h.2 in absurd (cc)
  ]

-- ---- the law of a message

pub lawful_message : {A : Type 0} {r : Table A} {steps : ℕ} → LawfulTable r steps → distinct r.names ≡ true → Lawful (message r) steps
lawful_message {A = A} {r = r} {steps = steps} lr once = record {
  sound = λ at t v e. let h = bound (members_at at t) _ _ e in (h.0, members_are at t h.0 h.1, lr.sound at h.0 v h.2);
  complete = λ at t v h. rw (h.1) (lr.complete at h.0 v h.2);
  no_null = λ v h. let e = h.1 in absurd (cc);
  sample =
      let some = lr.sample once in
      let x = some.2 (members_of some.0) (λ n named. refl) in
      (object (members_of some.0), x.0, (members_of some.0, refl, x.1));
  within = within;
  reached = elim (cases_lt steps 1) [
    | inl less ↦ (boolean true, (λ e. absurd (cc)), (λ at. (record { path = at; why = WrongKind }, refl, omega (arith, less))))
    | inr any ↦ let deep = lr.reached once any in
        (object (members_of deep.0), (λ e. absurd (cc)), (λ at. deep.2 at (members_of deep.0) (λ n named. refl)))
  ];
} where
  within : Within (message r) steps
  within at t f e = elim (broken (members_at at t) _ f e) [
    | inl h ↦ omega (arith, expected_there at (as_members t) f h)
    | inr h ↦ lr.within at h.0 f h.2
  ]

-- a message is read back if its member names are distinct and each value in it is read back
pub message_returns : {A : Type 0} {r : Table A} {steps : ℕ} → LawfulTable r steps → distinct r.names ≡ true → (v : A) → r.Back v → Returns (message r) v
message_returns {r = r} lr once v returns = (members_of (r.members v), refl, lr.back (members_of (r.members v)) v once (λ n named. refl) returns)
