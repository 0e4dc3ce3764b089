-- The laws of a table of members: `read` decides `Reads`, written values are read back, and the
-- depth of faults is bounded.
use Rattle.std.proofs.Common.{◌≡◌, ◌⊎◌, inl, inr, ℕ, ◌+◌, ◌≤◌, Bool, true, false, List, [], ◌∷◌, length, Option, Some, None, refl, ◌∙◌, subst, arith}
use Rattle.std.specs.Prelude.{Ok, Err}
use Rattle.mes_json.specs.Tree.{Tree, Members}
use Rattle.mes_json.specs.Tree.Tree.{boolean, object}
use Rattle.mes_json.specs.Tree.Members.{no_members}
use Rattle.mes_json.specs.Cursor.{as_members}
use Rattle.mes_json.specs.View.{members_of}
use Rattle.mes_model_schema.specs.Paths.{Place}
use Rattle.mes_model_schema.specs.Fields.{values_named, is_in, Has, Lacks, below, lookup}
use Rattle.mes_model_schema.specs.Kinds.{Kind, Lawful, Reaches, ◌>>=◌}
use Rattle.mes_model_schema.specs.Leaves.{members_at, left_out}
use Rattle.mes_model_schema.specs.Lists.{list_of}
use Rattle.mes_model_schema.specs.Rows.{Table, must, required, need, HasSome, likewise, optional, some_member, ReturnsSome, maybe, listed, repeated, list_member, ReturnsEach, many, IsFlag, is_there, flagged, flag_member, flag}
use Rattle.mes_model_schema.specs.FieldLaws.{bound, broken, breaks_first, has_looked, lacks_looked, looked}
use Rattle.mes_model_schema.specs.NameLaws.{distinct, Agrees, is_only, under_one, has_one}
use Rattle.mes_model_schema.specs.StepLaws.{SomeRead, SomeDeep, fault_there, expected_there, row_within, row_deep}
use Rattle.mes_model_schema.specs.KindLaws.{members_are, lawful_list, list_returns}
use Rattle.mes_model_schema.specs.declared.field.FieldFault.{FieldFault}
use Rattle.mes_model_schema.specs.declared.field.FieldFaultKind.TheVariants.{Missing, WrongKind, LeftOut}

pub record LawfulTable {F : Type 0} (r : Table F) (steps : ℕ) : Type 0 where
  -- at any path, `read` returns x if and only if `Reads` relates the members to x
  pub sound : (at : List Place) (ms : Members) (x : F) → r.read at ms ≡ Ok x → r.Reads ms x
  pub complete : (at : List Place) (ms : Members) (x : F) → r.Reads ms x → r.read at ms ≡ Ok x
  -- x is read back from the members that it is written as, if the table has each name once
  pub back : (ms : Members) (x : F) → distinct r.names ≡ true → Agrees r.names ms (r.members x) → r.Back x → r.Reads ms x
  -- no member is written under a name that the table does not have
  pub only : (n : List ℕ) (x : F) → is_in n r.names ≡ false → values_named n (members_of (r.members x)) ≡ []
  -- some members are read as a value, if the table has each name once
  pub sample : distinct r.names ≡ true → SomeRead r.names r.Reads
  -- faults are at most `steps` steps below the object, and if steps ≥ 1 some fault is that deep
  pub within : (at : List Place) (ms : Members) (f : FieldFault) → r.read at ms ≡ Err f → length f.path ≤ length at + steps
  pub reached : distinct r.names ≡ true → 1 ≤ steps → SomeDeep r.names r.read steps

-- ---- the laws of a table with one row

-- if the member of a row was written, the object has it
held : {A : Type 0} {steps : ℕ} (k : Kind A) → Lawful k steps → (n : List ℕ) (ms : Members) (t : Tree) (v : A) → Agrees (n ∷ []) ms ((n, t) ∷ []) → k.Reads t v
    → Has ms n t
held k lawful n ms t v agrees reads = has_one n ms t (λ e. lawful.no_null v (subst (λ (u : Tree). k.Reads u v) e reads)) agrees

-- if no member was written under the name of a row, the object has none
free : (n : List ℕ) (ms : Members) → Agrees (n ∷ []) ms [] → Lacks ms n
free n ms agrees = inl (agrees n (is_only n))

pub lawful_need : {A : Type 0} {n : List ℕ} {k : Kind A} {steps : ℕ} → Lawful k steps → LawfulTable (need n k) (1 + steps)
unfolding required
lawful_need {A = A} {n = n} {k = k} {steps = steps} lawful = record {
  sound = λ at ms v e. sound at ms v e;
  complete = λ at ms v h. rw (has_looked at n ms h.0 h.1) (rw (lawful.complete (below at n) h.0 v h.2) refl);
  back = λ ms v once agrees returns. (k.tree v, held k lawful n ms (k.tree v) v agrees returns, returns);
  only = λ m v other. under_one n (k.tree v) m other;
  sample = λ once. ((n, some.0) ∷ [], under_one n some.0, (λ ms agrees. (some.1, (some.0, held k lawful n ms some.0 some.1 agrees some.2, some.2))));
  within = row_within n steps (must k) within;
  reached = λ once any. row_deep n steps (must k) deep.0 deep.1 deep.2;
} where
  some : (t : Tree) × (v : A) × k.Reads t v
  some = lawful.sample

  deep : Reaches k steps
  deep = lawful.reached

  sound : (at : List Place) (ms : Members) (v : A) → (lookup at n ms >>= must k (below at n)) ≡ Ok v → (t : Tree) × Has ms n t × k.Reads t v
  sound at ms v e = elim (looked at n ms (must k (below at n)) v e) [
    | inl h ↦ let bad = h.1 in absurd (cc)
    | inr h ↦ (h.0, h.1, lawful.sound (below at n) h.0 v h.2)
  ]

  within : (at : List Place) (o : Option Tree) (f : FieldFault) → must k at o ≡ Err f → length f.path ≤ length at + steps
  within at None f e = omega (arith, fault_there at Missing f e)
  within at (Some t) f e = lawful.within at t f e

pub lawful_maybe : {A : Type 0} {n : List ℕ} {k : Kind A} {steps : ℕ} → Lawful k steps → LawfulTable (maybe n k) (1 + steps)
unfolding optional
lawful_maybe {A = A} {n = n} {k = k} {steps = steps} lawful = record {
  sound = λ at ms o e. sound at ms o (looked at n ms (likewise k (below at n)) o e);
  complete = complete;
  back = λ ms x once agrees returns. back ms x agrees returns;
  only = only;
  sample = λ once. ([], (λ m other. refl), (λ ms agrees. (None, free n ms agrees)));
  within = row_within n steps (likewise k) within;
  reached = λ once any. row_deep n steps (likewise k) deep.0 deep.1 (λ at. let one = deep.2 at in (one.0, breaks_first (k.read at deep.0) _ one.0 one.1, one.2));
} where
  deep : Reaches k steps
  deep = lawful.reached

  sound : (at : List Place) (ms : Members) (o : Option A)
      → (Lacks ms n × (likewise k (below at n) None ≡ Ok o)) ⊎ ((t : Tree) × Has ms n t × (likewise k (below at n) (Some t) ≡ Ok o)) → HasSome n k ms o
  sound at ms None (inl h) = h.0
  sound at ms (Some v) (inl h) = let bad = h.1 in absurd (cc)
  sound at ms None (inr h) = let bad = bound (k.read (below at n) h.0) _ _ h.2 in let none = bad.2 in absurd (cc)
  sound at ms (Some v) (inr h) =
      let one = bound (k.read (below at n) h.0) _ _ h.2 in
      let same = one.2 in
      (h.0, h.1, lawful.sound (below at n) h.0 v (one.1 ∙ cc))

  complete : (at : List Place) (ms : Members) (o : Option A) → HasSome n k ms o → (lookup at n ms >>= likewise k (below at n)) ≡ Ok o
  complete at ms None h = rw (lacks_looked at n ms h) refl
  complete at ms (Some v) h = rw (has_looked at n ms h.0 h.1) (rw (lawful.complete (below at n) h.0 v h.2) refl)

  back : (ms : Members) (o : Option A) → Agrees (n ∷ []) ms (some_member n k o) → ReturnsSome k o → HasSome n k ms o
  back ms None agrees returns = free n ms agrees
  back ms (Some v) agrees returns = (k.tree v, held k lawful n ms (k.tree v) v agrees returns, returns)

  only : (m : List ℕ) (o : Option A) → is_in m (n ∷ []) ≡ false → values_named m (members_of (some_member n k o)) ≡ []
  only m None other = refl
  only m (Some v) other = under_one n (k.tree v) m other

  within : (at : List Place) (o : Option Tree) (f : FieldFault) → likewise k at o ≡ Err f → length f.path ≤ length at + steps
  within at None f e = absurd (cc)
  within at (Some t) f e = elim (broken (k.read at t) _ f e) [
    | inl h ↦ lawful.within at t f h
    | inr h ↦ let bad = h.2 in absurd (cc)
  ]

-- the law of an unsupported member, which must be absent
pub lawful_left_out : {n : List ℕ} → LawfulTable (maybe n left_out) 1
unfolding optional left_out
lawful_left_out {n = n} = record {
  sound = λ at ms o e. sound at ms o (looked at n ms (likewise left_out (below at n)) o e);
  complete = complete;
  back = back;
  only = only;
  sample = λ once. ([], (λ m other. refl), (λ ms agrees. (None, free n ms agrees)));
  within = row_within n 0 (likewise left_out) within;
  reached = λ once any. row_deep n 0 (likewise left_out) (boolean true) (λ e. absurd (cc)) (λ at. (record { path = at; why = LeftOut }, refl, omega arith));
} where
  sound : (at : List Place) (ms : Members) (o : Option ⊥)
      → (Lacks ms n × (likewise left_out (below at n) None ≡ Ok o)) ⊎ ((t : Tree) × Has ms n t × (likewise left_out (below at n) (Some t) ≡ Ok o))
      → HasSome n left_out ms o
  sound at ms (Some v) h = absurd v
  sound at ms None (inl h) = h.0
  sound at ms None (inr h) = let bad = h.2 in absurd (cc)

  complete : (at : List Place) (ms : Members) (o : Option ⊥) → HasSome n left_out ms o → (lookup at n ms >>= likewise left_out (below at n)) ≡ Ok o
  complete at ms (Some v) h = absurd v
  complete at ms None h = rw (lacks_looked at n ms h) refl

  back : (ms : Members) (o : Option ⊥) → distinct (n ∷ []) ≡ true → Agrees (n ∷ []) ms (some_member n left_out o) → ReturnsSome left_out o
      → HasSome n left_out ms o
  back ms (Some v) once agrees returns = absurd v
  back ms None once agrees returns = free n ms agrees

  only : (m : List ℕ) (o : Option ⊥) → is_in m (n ∷ []) ≡ false → values_named m (members_of (some_member n left_out o)) ≡ []
  only m (Some v) other = absurd v
  only m None other = refl

  within : (at : List Place) (o : Option Tree) (f : FieldFault) → likewise left_out at o ≡ Err f → length f.path ≤ length at + 0
  within at None f e = absurd (cc)
  within at (Some t) f e = omega (arith, fault_there at LeftOut f e)

pub lawful_many : {A : Type 0} {n : List ℕ} {k : Kind A} {steps : ℕ} → Lawful k steps → LawfulTable (many n k) (2 + steps)
unfolding repeated
lawful_many {A = A} {n = n} {k = k} {steps = steps} lawful = record {
  sound = λ at ms vs e. sound at ms vs (looked at n ms (listed k (below at n)) vs e);
  complete = complete;
  back = λ ms x once agrees returns. back ms x agrees returns;
  only = only;
  sample = λ once. ([], (λ m other. refl), (λ ms agrees. ([], inl (free n ms agrees, refl))));
  within = λ at ms f e. omega (arith, row_within n (1 + steps) (listed k) within at ms f e);
  reached = λ once any. subst (SomeDeep (n ∷ []) (λ at ms. lookup at n ms >>= listed k (below at n))) more (row_deep n (1 + steps) (listed k) deep.0 deep.1 deep.2);
} where
  each : Lawful (list_of k) (1 + steps)
  each = lawful_list lawful

  deep : Reaches (list_of k) (1 + steps)
  deep = each.reached

  more : 1 + (1 + steps) ≡ 2 + steps
  more = omega arith

  sound : (at : List Place) (ms : Members) (vs : List A)
      → (Lacks ms n × (listed k (below at n) None ≡ Ok vs)) ⊎ ((t : Tree) × Has ms n t × (listed k (below at n) (Some t) ≡ Ok vs))
      → (Lacks ms n × (vs ≡ [])) ⊎ ((t : Tree) × Has ms n t × (list_of k).Reads t vs)
  sound at ms vs (inl h) = let same = h.1 in inl (h.0, cc)
  sound at ms vs (inr h) = inr (h.0, h.1, each.sound (below at n) h.0 vs h.2)

  complete : (at : List Place) (ms : Members) (vs : List A) → (Lacks ms n × (vs ≡ [])) ⊎ ((t : Tree) × Has ms n t × (list_of k).Reads t vs)
      → (lookup at n ms >>= listed k (below at n)) ≡ Ok vs
  complete at ms vs (inl h) = let none = h.1 in rw (lacks_looked at n ms h.0) (cc)
  complete at ms vs (inr h) = rw (has_looked at n ms h.0 h.1) (each.complete (below at n) h.0 vs h.2)

  back : (ms : Members) (vs : List A) → Agrees (n ∷ []) ms (list_member n k vs) → ReturnsEach k vs
      → (Lacks ms n × (vs ≡ [])) ⊎ ((t : Tree) × Has ms n t × (list_of k).Reads t vs)
  back ms [] agrees returns = inl (free n ms agrees, refl)
  back ms (v ∷ vs) agrees returns =
      let all = list_returns k (v ∷ vs) returns in
      inr ((list_of k).tree (v ∷ vs), held (list_of k) each n ms ((list_of k).tree (v ∷ vs)) (v ∷ vs) agrees all, all)

  only : (m : List ℕ) (vs : List A) → is_in m (n ∷ []) ≡ false → values_named m (members_of (list_member n k vs)) ≡ []
  only m [] other = refl
  only m (v ∷ vs) other = under_one n ((list_of k).tree (v ∷ vs)) m other

  within : (at : List Place) (o : Option Tree) (f : FieldFault) → listed k at o ≡ Err f → length f.path ≤ length at + (1 + steps)
  within at None f e = absurd (cc)
  within at (Some t) f e = each.within at t f e

pub lawful_flag : {n : List ℕ} → LawfulTable (flag n) 1
unfolding flagged
lawful_flag {n = n} = record {
  sound = λ at ms x e. sound at ms x (looked at n ms (is_there (below at n)) x e);
  complete = complete;
  back = λ ms x once agrees returns. back ms x agrees returns;
  only = only;
  sample = λ once. ([], (λ m other. refl), (λ ms agrees. (false, free n ms agrees)));
  within = row_within n 0 is_there within;
  reached = λ once any. row_deep n 0 is_there (boolean true) (λ e. absurd (cc)) (λ at. (record { path = at; why = WrongKind }, refl, omega arith));
} where
  sound : (at : List Place) (ms : Members) (x : Bool)
      → (Lacks ms n × (is_there (below at n) None ≡ Ok x)) ⊎ ((t : Tree) × Has ms n t × (is_there (below at n) (Some t) ≡ Ok x)) → IsFlag n ms x
  sound at ms false (inl h) = h.0
  sound at ms true (inl h) = let bad = h.1 in absurd (cc)
  sound at ms false (inr h) = let one = bound (members_at (below at n) h.0) _ _ h.2 in let bad = one.2 in absurd (cc)
  sound at ms true (inr h) =
      let one = bound (members_at (below at n) h.0) _ _ h.2 in
      (one.0, subst (λ (t : Tree). Has ms n t) (members_are (below at n) h.0 one.0 one.1) h.1)

  complete : (at : List Place) (ms : Members) (x : Bool) → IsFlag n ms x → (lookup at n ms >>= is_there (below at n)) ≡ Ok x
  complete at ms false h = rw (lacks_looked at n ms h) refl
  complete at ms true h = rw (has_looked at n ms (object h.0) h.1) refl

  back : (ms : Members) (x : Bool) → Agrees (n ∷ []) ms (flag_member n x) → Unit {0} → IsFlag n ms x
  back ms false agrees returns = free n ms agrees
  back ms true agrees returns = (no_members, has_one n ms (object no_members) (λ e. absurd (cc)) agrees)

  only : (m : List ℕ) (x : Bool) → is_in m (n ∷ []) ≡ false → values_named m (members_of (flag_member n x)) ≡ []
  only m false other = refl
  only m true other = under_one n (object no_members) m other

  within : (at : List Place) (o : Option Tree) (f : FieldFault) → is_there at o ≡ Err f → length f.path ≤ length at + 0
  within at None f e = absurd (cc)
  within at (Some t) f e = elim (broken (members_at at t) _ f e) [
    | inl h ↦ omega (arith, expected_there at (as_members t) f h)
    | inr h ↦ let bad = h.2 in absurd (cc)
  ]
