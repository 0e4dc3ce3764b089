-- Lemmas about duplicates in a list of identifiers, one identifier at a time.
use Rattle.std.proofs.Common.{◌≡◌, ℕ, ◌+◌, ◌<◌, Bool, true, false, ◌||◌, List, [], ◌∷◌, ◌++◌, length, take, drop, get_or, refl, sym, ◌∙◌, ap, append_assoc, append-nil, take-append-drop}
use Rattle.std.specs.List.{list_any}
use Rattle.std.specs.Str.{bytes_eq}
use Rattle.std.specs.Cmp.Lexicographic.{nat_list_eq_equiv}
use Rattle.std.proofs.lemmas.List.Folds.{list_any-append}
use Rattle.std.proofs.lemmas.Grind.{flat_map-append}
use Rattle.std.proofs.lemmas.List.{take_more}
use Rattle.mes_model.specs.Id.{Id}
use Rattle.mes_model.specs.TaskInfo.{TaskInfo}
use Rattle.mes_session_fit.specs.Launched.{launched}
use Rattle.mes_session_fit.proofs.LaunchedLemmas.{split}
use Rattle.mes_session_state.specs.Refusals.{is_among, is_duplicated, ids_of}
use Rattle.mes_session_state.specs.Looking.{is_task}
use Rattle.mes_session_state.proofs.LookLemmas.{none-both, or-none}

same-other : (x y : Id) → bytes_eq x.value y.value ≡ bytes_eq y.value x.value
same-other x y = nat_list_eq_equiv.symm x.value y.value

or-true : (a b : Bool) → b ≡ true → (a || b) ≡ true
or-true true b e = refl
or-true false b e = e

or-first : (a b : Bool) → a ≡ true → (a || b) ≡ true
or-first a b e = rw e refl

or-none-right : (b : Bool) → (b || false) ≡ b
or-none-right true = refl
or-none-right false = refl

pub one-new : (zs : List Id) (x : Id) → is_duplicated zs ≡ false → is_among x zs ≡ false → is_duplicated (zs ++ x ∷ []) ≡ false
one-new [] x h n = refl
one-new (z ∷ zs) x h n =
    let once = none-both (is_among z zs) (is_duplicated zs) h in
    let other = none-both (bytes_eq x.value z.value) (is_among x zs) n in
    or-none (is_among z (zs ++ x ∷ [])) (is_duplicated (zs ++ x ∷ []))
    (list_any-append (λ (y : Id). bytes_eq z.value y.value) zs (x ∷ []) ∙ or-none (is_among z zs) (bytes_eq z.value x.value || false) once.0 (or-none-right _ ∙ same-other z x ∙ other.0))
    (one-new zs x once.1 other.1)

pub twice-front : (xs ys : List Id) → is_duplicated xs ≡ true → is_duplicated (xs ++ ys) ≡ true
twice-front [] ys h = absurd (cc)
twice-front (x ∷ xs) ys h = by (is_among x xs) refl h (twice-front xs ys)
  where
    by : (b : Bool) → is_among x xs ≡ b → (b || is_duplicated xs) ≡ true → (is_duplicated xs ≡ true → is_duplicated (xs ++ ys) ≡ true) → is_duplicated (x ∷ (xs ++ ys)) ≡ true
    by true t h rest = or-first (is_among x (xs ++ ys)) (is_duplicated (xs ++ ys)) (list_any-append (λ (y : Id). bytes_eq x.value y.value) xs ys ∙ or-first (is_among x xs) (is_among x ys) t)
    by false t h rest = or-true (is_among x (xs ++ ys)) (is_duplicated (xs ++ ys)) (rest h)

pub one-again : (zs : List Id) (x : Id) → is_among x zs ≡ true → is_duplicated (zs ++ x ∷ []) ≡ true
one-again [] x n = absurd (cc)
one-again (z ∷ zs) x n = by (bytes_eq x.value z.value) refl n (one-again zs x)
  where
    by : (b : Bool) → bytes_eq x.value z.value ≡ b → (b || is_among x zs) ≡ true → (is_among x zs ≡ true → is_duplicated (zs ++ x ∷ []) ≡ true) → is_duplicated (z ∷ (zs ++ x ∷ [])) ≡ true
    by true t n rest =
        or-first (is_among z (zs ++ x ∷ [])) (is_duplicated (zs ++ x ∷ []))
        (list_any-append (λ (y : Id). bytes_eq z.value y.value) zs (x ∷ []) ∙ or-true (is_among z zs) (bytes_eq z.value x.value || false) (or-none-right _ ∙ same-other z x ∙ t))
    by false t n rest = or-true (is_among z (zs ++ x ∷ [])) (is_duplicated (zs ++ x ∷ [])) (rest n)

module _ (xs : List Id) (i : ℕ) (x : Id) (within : i < length xs) (is : x ≡ get_or xs i x) where
  front : take (i + 1) xs ≡ take i xs ++ x ∷ []
  front = take_more xs i x within ∙ ap (λ (y : Id). take i xs ++ y ∷ []) (sym is)

  pub new-at : is_duplicated (take i xs) ≡ false → is_among x (take i xs) ≡ false → is_duplicated (take (i + 1) xs) ≡ false
  new-at h n = ap is_duplicated front ∙ one-new (take i xs) x h n

  pub again-at : is_among x (take i xs) ≡ true → is_duplicated xs ≡ true
  again-at n =
      ap is_duplicated (sym (take-append-drop (i + 1) xs))
      ∙ twice-front (take (i + 1) xs) (drop (i + 1) xs) (ap is_duplicated front ∙ one-again (take i xs) x n)

-- ---- duplicate identifiers of tasks

pub in-tasks : (id : Id) (ts : List TaskInfo) → is_among id (ids_of ts) ≡ list_any (is_task id) ts
in-tasks id [] = refl
in-tasks id (t ∷ ts) = ap (λ (b : Bool). is_task id t || b) (in-tasks id ts)

ids-append : (ts us : List TaskInfo) → ids_of (ts ++ us) ≡ ids_of ts ++ ids_of us
ids-append [] us = refl
ids-append (t ∷ ts) us = ap (λ (ds : List Id). t.task_id ∷ ds) (ids-append ts us)

module _ (before tasks : List TaskInfo) (i : ℕ) (t : TaskInfo) (within : i < length tasks) (is : t ≡ get_or tasks i t) where
  fore : ids_of (before ++ take (i + 1) tasks) ≡ ids_of (before ++ take i tasks) ++ t.task_id ∷ []
  fore =
      ap (λ (us : List TaskInfo). ids_of (before ++ us)) (take_more tasks i t within ∙ ap (λ (u : TaskInfo). take i tasks ++ u ∷ []) (sym is))
      ∙ ap ids_of (sym (append_assoc before (take i tasks) (t ∷ [])))
      ∙ ids-append (before ++ take i tasks) (t ∷ [])

  both : is_among t.task_id (ids_of (before ++ take i tasks)) ≡ (list_any (is_task t.task_id) before || list_any (is_task t.task_id) (take i tasks))
  both = in-tasks t.task_id (before ++ take i tasks) ∙ list_any-append (is_task t.task_id) before (take i tasks)

  pub new-task : is_duplicated (ids_of (before ++ take i tasks)) ≡ false → list_any (is_task t.task_id) before ≡ false → list_any (is_task t.task_id) (take i tasks) ≡ false → is_duplicated (ids_of (before ++ take (i + 1) tasks)) ≡ false
  new-task h m n = ap is_duplicated fore ∙ one-new (ids_of (before ++ take i tasks)) t.task_id h (both ∙ or-none _ _ m n)

  pub task-again : (list_any (is_task t.task_id) before || list_any (is_task t.task_id) (take i tasks)) ≡ true → is_duplicated (ids_of (before ++ tasks)) ≡ true
  task-again n =
      ap (λ (us : List TaskInfo). is_duplicated (ids_of (before ++ us))) (sym (take-append-drop (i + 1) tasks))
      ∙ ap (λ (us : List TaskInfo). is_duplicated (ids_of us)) (sym (append_assoc before (take (i + 1) tasks) (drop (i + 1) tasks)))
      ∙ ap is_duplicated (ids-append (before ++ take (i + 1) tasks) (drop (i + 1) tasks))
      ∙ twice-front (ids_of (before ++ take (i + 1) tasks)) (ids_of (drop (i + 1) tasks)) (ap is_duplicated fore ∙ one-again (ids_of (before ++ take i tasks)) t.task_id (both ∙ n))

module _ {G : Type 0} (of : G → List TaskInfo) (os : List G) (at : ℕ) (o : G) (within : at < length os) (is : o ≡ get_or os at o) (tasks : List TaskInfo) (part : tasks ≡ of o) where
  pub up-to : launched of (take (at + 1) os) ≡ launched of (take at os) ++ tasks
  up-to =
      ap (launched of) (take_more os at o within ∙ ap (λ (q : G). take at os ++ q ∷ []) (sym is))
      ∙ flat_map-append of (take at os) (o ∷ [])
      ∙ ap (λ (us : List TaskInfo). launched of (take at os) ++ us) (append-nil (of o) ∙ sym part)

  pub twice-in : is_duplicated (ids_of (launched of (take at os) ++ tasks)) ≡ true → is_duplicated (ids_of (launched of os)) ≡ true
  twice-in h =
      ap (λ (us : List TaskInfo). is_duplicated (ids_of us)) (split of os at o within is ∙ ap (λ (us : List TaskInfo). launched of (take at os) ++ (us ++ launched of (drop (at + 1) os))) (sym part)
      ∙ sym (append_assoc (launched of (take at os)) tasks (launched of (drop (at + 1) os))))
      ∙ ap is_duplicated (ids-append (launched of (take at os) ++ tasks) (launched of (drop (at + 1) os)))
      ∙ twice-front (ids_of (launched of (take at os) ++ tasks)) (ids_of (launched of (drop (at + 1) os))) h
