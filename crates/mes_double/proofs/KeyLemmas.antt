-- Lemmas about the keys of updates: in the session, in events, and in the master.
use Rattle.std.proofs.Common.{◌≡◌, ℕ, zero, suc, Bool, true, false, ◌||◌, ◌⊎◌, inl, inr, filter, fold, map, slice_get, List, [], ◌∷◌, ◌++◌, Option, Some, None, refl, sym, ap, ◌∙◌}
use Rattle.std.specs.List.{list_any}
use Rattle.std.specs.Option.{option_to_list}
use Rattle.std.proofs.lemmas.Bool.{or_cases, or_left, or_right}
use Rattle.std.proofs.lemmas.List.Folds.{list_any-append}
use Rattle.mes_model.specs.Id.{Id}
use Rattle.mes_model.specs.OwedKey.{OwedKey}
use Rattle.mes_model.specs.TaskStatus.{TaskStatus}
use Rattle.mes_model.specs.Owed.{key_by}
use Rattle.mes_msg.specs.Event.{Event}
use Rattle.mes_msg.specs.declared.entry.Entry.TheVariants.{Heard}
use Rattle.mes_session_state.specs.Held.{same_key, is_owed, with_key}
use Rattle.mes_session.specs.History.{owed_by}
use Rattle.mes_session.proofs.HistoryLemmas.{key-exact, key-self}
use Rattle.mes_double_master.specs.Masters.{has_update, reconciled_event}
use Rattle.mes_double.proofs.ListLemmas.{or-none}

-- ---- the keys that the session has not acknowledged

pub owed-fewer : (p : OwedKey → Bool) (k : OwedKey) (ks : List OwedKey) → is_owed k (filter p ks) ≡ true → is_owed k ks ≡ true
owed-fewer p k [] e = e
owed-fewer p k (l ∷ ks) e = by (p l) refl e (owed-fewer p k ks)
  where
    by : (b : Bool) → p l ≡ b → is_owed k (filter p (l ∷ ks)) ≡ true → (is_owed k (filter p ks) ≡ true → is_owed k ks ≡ true) → is_owed k (l ∷ ks) ≡ true
    by false f e rest = or_right (same_key k l) (is_owed k ks) (rest (let g : is_owed k (filter p ks) ≡ true = rw f at e in g))
    by true f e rest = elim (or_cases (same_key k l) (is_owed k (filter p ks)) (let g : (same_key k l || is_owed k (filter p ks)) ≡ true = rw f at e in g)) [
      | inl g ↦ or_left (same_key k l) (is_owed k ks) g
      | inr g ↦ or_right (same_key k l) (is_owed k ks) (rest g)
    ]

pub owed-put : (k : OwedKey) (ks : List OwedKey) (x : OwedKey) → is_owed k (with_key ks x) ≡ true → (is_owed k ks ≡ true) ⊎ (same_key k x ≡ true)
owed-put k [] x e = inr (sym (or-none (same_key k x)) ∙ e)
owed-put k (l ∷ ks) x e = by (same_key x l) refl e (owed-put k ks x)
  where
    by : (b : Bool) → same_key x l ≡ b → is_owed k (with_key (l ∷ ks) x) ≡ true → (is_owed k (with_key ks x) ≡ true → (is_owed k ks ≡ true) ⊎ (same_key k x ≡ true)) → (is_owed k (l ∷ ks) ≡ true) ⊎ (same_key k x ≡ true)
    by true f e rest = elim (or_cases (same_key k x) (is_owed k ks) (let g : (same_key k x || is_owed k ks) ≡ true = rw f at e in g)) [
      | inl g ↦ inr g
      | inr g ↦ inl (or_right (same_key k l) (is_owed k ks) g)
    ]
    by false f e rest = elim (or_cases (same_key k l) (is_owed k (with_key ks x)) (let g : (same_key k l || is_owed k (with_key ks x)) ≡ true = rw f at e in g)) [
      | inl g ↦ inl (or_left (same_key k l) (is_owed k ks) g)
      | inr g ↦ elim (rest g) [
        | inl h ↦ inl (or_right (same_key k l) (is_owed k ks) h)
        | inr h ↦ inr h
      ]
    ]

pub owed-fold : (k : OwedKey) (ks xs : List OwedKey) → is_owed k (fold with_key ks xs) ≡ true → (is_owed k ks ≡ true) ⊎ (is_owed k xs ≡ true)
owed-fold k ks [] e = inl e
owed-fold k ks (x ∷ xs) e = elim (owed-fold k (with_key ks x) xs e) [
  | inl f ↦ elim (owed-put k ks x f) [
    | inl g ↦ inl g
    | inr g ↦ inr (or_left (same_key k x) (is_owed k xs) g)
  ]
  | inr f ↦ inr (or_right (same_key k x) (is_owed k xs) f)
]

pub owed-still : (k : OwedKey) (ks : List OwedKey) (x : OwedKey) → is_owed k ks ≡ true → is_owed k (with_key ks x) ≡ true
owed-still k [] x e = absurd (cc)
owed-still k (l ∷ ks) x e = by (same_key x l) refl (or_cases (same_key k l) (is_owed k ks) e) (owed-still k ks x)
  where
    by : (b : Bool) → same_key x l ≡ b → (same_key k l ≡ true) ⊎ (is_owed k ks ≡ true) → (is_owed k ks ≡ true → is_owed k (with_key ks x) ≡ true) → is_owed k (with_key (l ∷ ks) x) ≡ true
    by true f (inl e) rest = rw f (or_left (same_key k x) (is_owed k ks) (ap (same_key k) (key-exact x l f) ∙ e))
    by true f (inr e) rest = rw f (or_right (same_key k x) (is_owed k ks) e)
    by false f (inl e) rest = rw f (or_left (same_key k l) (is_owed k (with_key ks x)) e)
    by false f (inr e) rest = rw f (or_right (same_key k l) (is_owed k (with_key ks x)) (rest e))

pub owed-last : (ks : List OwedKey) (x : OwedKey) → is_owed x (with_key ks x) ≡ true
owed-last [] x = or_left (same_key x x) false (key-self x)
owed-last (l ∷ ks) x = by (same_key x l) refl (owed-last ks x)
  where
    by : (b : Bool) → same_key x l ≡ b → is_owed x (with_key ks x) ≡ true → is_owed x (with_key (l ∷ ks) x) ≡ true
    by true f rest = rw f (or_left (same_key x x) (is_owed x ks) (key-self x))
    by false f rest = rw f (or_right (same_key x l) (is_owed x (with_key ks x)) rest)

pub owed-there : (ks : List OwedKey) (x : OwedKey) → is_owed x ks ≡ true → with_key ks x ≡ ks
owed-there [] x e = absurd (cc)
owed-there (l ∷ ks) x e = by (same_key x l) refl e (owed-there ks x)
  where
    by : (b : Bool) → same_key x l ≡ b → (same_key x l || is_owed x ks) ≡ true → (is_owed x ks ≡ true → with_key ks x ≡ ks) → with_key (l ∷ ks) x ≡ l ∷ ks
    by true f e rest = rw f (ap (λ (k : OwedKey). k ∷ ks) (key-exact x l f))
    by false f e rest = rw f (ap (λ (r : List OwedKey). l ∷ r) (rest (let g : (false || is_owed x ks) ≡ true = rw f at e in g)))

-- ---- the keys of the UPDATEs in a list of events

abbrev pub tells_key : OwedKey → List Event → Bool
tells_key k events = list_any (λ (e : Event). is_owed k (owed_by (Heard e))) events

pub reports-append : (k : OwedKey) (front events : List Event) → tells_key k (front ++ events) ≡ (tells_key k front || tells_key k events)
reports-append k front events = list_any-append (λ (e : Event). is_owed k (owed_by (Heard e))) front events

pub reports-more : (k : OwedKey) (front : List Event) (e : Event) → tells_key k (front ++ e ∷ []) ≡ true → (tells_key k front ≡ true) ⊎ (is_owed k (owed_by (Heard e)) ≡ true)
reports-more k front e t = elim (or_cases (tells_key k front) (tells_key k (e ∷ [])) (sym (reports-append k front (e ∷ [])) ∙ t)) [
  | inl f ↦ inl f
  | inr f ↦ inr (sym (or-none (is_owed k (owed_by (Heard e)))) ∙ f)
]

pub reports-still : (k : OwedKey) (front events : List Event) → tells_key k front ≡ true → tells_key k (front ++ events) ≡ true
reports-still k front events t = reports-append k front events ∙ or_left (tells_key k front) (tells_key k events) t

pub reports-last : (k : OwedKey) (front : List Event) (e : Event) → is_owed k (owed_by (Heard e)) ≡ true → tells_key k (front ++ e ∷ []) ≡ true
reports-last k front e t = reports-append k front (e ∷ []) ∙ or_right (tells_key k front) (tells_key k (e ∷ [])) (or_left (is_owed k (owed_by (Heard e))) false t)

-- a status without a UUID, such as one sent for a RECONCILE, has no key
no-key : (task : Id) (agent : Option Id) → key_by task agent None ≡ None
no-key task None = refl
no-key task (Some a) = refl

pub told-none : (k : OwedKey) (statuses : List TaskStatus) → tells_key k (map reconciled_event statuses) ≡ false
told-none k [] = refl
told-none k (status ∷ statuses) =
    ap (λ (o : Option OwedKey). is_owed k (option_to_list o) || tells_key k (map reconciled_event statuses)) (no-key status.task_id status.agent_id) ∙ told-none k statuses

-- ---- the keys of the updates that the master has sent

pub owing-more : (owing : List (OwedKey × TaskStatus)) (key : OwedKey) (status : TaskStatus) (k : OwedKey) → has_update owing k ≡ true → has_update (owing ++ (key, status) ∷ []) k ≡ true
owing-more [] key status k e = absurd (cc)
owing-more (x ∷ owing) key status k e = by (same_key k x.0) refl e (owing-more owing key status k)
  where
    by : (b : Bool) → same_key k x.0 ≡ b → has_update (x ∷ owing) k ≡ true → (has_update owing k ≡ true → has_update (owing ++ (key, status) ∷ []) k ≡ true) → has_update (x ∷ owing ++ (key, status) ∷ []) k ≡ true
    by true f e rest = rw f refl
    by false f e rest = rw f (rest (let g : has_update owing k ≡ true = rw f at e in g))

pub owing-last : (owing : List (OwedKey × TaskStatus)) (key : OwedKey) (status : TaskStatus) (k : OwedKey) → same_key k key ≡ true → has_update (owing ++ (key, status) ∷ []) k ≡ true
owing-last [] key status k e = rw e refl
owing-last (x ∷ owing) key status k e = by (same_key k x.0) refl (owing-last owing key status k e)
  where
    by : (b : Bool) → same_key k x.0 ≡ b → has_update (owing ++ (key, status) ∷ []) k ≡ true → has_update (x ∷ owing ++ (key, status) ∷ []) k ≡ true
    by true f rest = rw f refl
    by false f rest = rw f rest

pub owing-there : (owing : List (OwedKey × TaskStatus)) (i : ℕ) (x : OwedKey × TaskStatus) (k : OwedKey) → slice_get owing i ≡ Some x → same_key k x.0 ≡ true → has_update owing k ≡ true
owing-there [] i x k there e = absurd (cc)
owing-there (y ∷ owing) zero x k there e =
    let same : y ≡ x = (let f : Some y ≡ Some x = there in cc) in
    let f : same_key k y.0 ≡ true = ap (λ (z : OwedKey × TaskStatus). same_key k z.0) same ∙ e in
    rw f refl
owing-there (y ∷ owing) (suc i) x k there e = by (same_key k y.0) refl (owing-there owing i x k there e)
  where
    by : (b : Bool) → same_key k y.0 ≡ b → has_update owing k ≡ true → has_update (y ∷ owing) k ≡ true
    by true f rest = rw f refl
    by false f rest = rw f rest

pub get-filter : {X : Type 0} (p : X → Bool) (xs : List X) (i : ℕ) (x : X) → slice_get (filter p xs) i ≡ Some x → (j : ℕ) × (slice_get xs j ≡ Some x)
get-filter p [] i x e = absurd (cc)
get-filter p (y ∷ ys) i x e = by (p y) refl i e (λ n. get-filter p ys n x)
  where
    by : (b : Bool) → p y ≡ b → (i : ℕ) → slice_get (filter p (y ∷ ys)) i ≡ Some x → ((n : ℕ) → slice_get (filter p ys) n ≡ Some x → (j : ℕ) × (slice_get ys j ≡ Some x)) → (j : ℕ) × (slice_get (y ∷ ys) j ≡ Some x)
    by false f i e rest = (let r : (j : ℕ) × (slice_get ys j ≡ Some x) = rest i (let g : slice_get (filter p ys) i ≡ Some x = rw f at e in g) in (suc r.0, r.1))
    by true f zero e rest = (0, (let g : slice_get (y ∷ filter p ys) 0 ≡ Some x = rw f at e in g))
    by true f (suc i) e rest = (let r : (j : ℕ) × (slice_get ys j ≡ Some x) = rest i (let g : slice_get (y ∷ filter p ys) (suc i) ≡ Some x = rw f at e in g) in (suc r.0, r.1))
