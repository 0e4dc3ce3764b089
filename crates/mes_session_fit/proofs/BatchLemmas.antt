-- The comparison of a batch of tasks with the later tasks.
use Rattle.std.proofs.Common.{◌≡◌, ℕ, zero, suc, ◌+◌, ◌-◌, ◌≤◌, ◌<◌, Bool, true, false, ◌||◌, inl, inr, Some, List, [], ◌∷◌, ◌++◌, length, take, drop, get_or, slice_get, refl, sym, ◌∙◌, ap, length-drop, arith}
use Rattle.std.specs.List.{list_any}
use Rattle.std.proofs.lemmas.List.{take-append-drop, take-append-le, drop-drop}
use Rattle.std.proofs.lemmas.List.Folds.{list_any-append, list_any_more}
use Rattle.std.proofs.lemmas.Bool.{and_right}
use Rattle.mes_model.specs.Ranges.{Ranges}
use Rattle.mes_model.specs.Resource.{Resource}
use Rattle.mes_model.specs.ResourceValue.{ResourceValue}
use Rattle.mes_model.specs.ResourceValue.TheVariants.{Ranges as OfRanges}
use Rattle.mes_model.specs.TaskInfo.{TaskInfo}
use Rattle.mes_session_fit.specs.declared.batch.Ends.{Ends}
use Rattle.mes_session_fit.specs.Keys.{Key}
use Rattle.mes_session_fit.specs.Fits.{Piece, piece_in, piece_of, has_piece, asked}
use Rattle.mes_session_fit.specs.Fits.Piece.{point, item}
use Rattle.mes_session_fit.specs.Launched.{launched, place}
use Rattle.mes_session_fit.specs.Looking.{Meets}
use Rattle.mes_session_fit.specs.Batches.{is_between, in_ends, has_point, Apart, FreeFrom, IsBatch}
use Rattle.mes_session_fit.proofs.BreachLemmas.{asked-parts}
use Rattle.mes_session_fit.proofs.FitsLemmas.{or-left, or-right, or-none}
use Rattle.mes_session_fit.proofs.LaunchedLemmas.{drop-from, drop-place}
use Rattle.mes_session_fit.proofs.ListLemmas.{or-cases, any-flat_map, any-at, get-at}

-- ---- elements of the front and of the rest of a list

module _ {X : Type 0} where
  pub one-more : (test : ℕ → X → Bool) (old new : ℕ → Bool) (xs : List X) (i : ℕ) (x : X) → i < length xs → x ≡ get_or xs i x
      → ((n : ℕ) → old n ≡ true → new n ≡ true) → ((n : ℕ) → list_any (test n) (take i xs) ≡ true → old n ≡ true) → ((n : ℕ) → test n x ≡ true → new n ≡ true)
      → (n : ℕ) → list_any (test n) (take (i + 1) xs) ≡ true → new n ≡ true
  one-more test old new xs i x within is kept so_far here n e = elim (or-cases _ _ (sym (list_any_more (test n) xs i x within) ∙ e)) [
    | inl before ↦ kept n (so_far n before)
    | inr now ↦ here n (ap (test n) is ∙ now)
  ]

  get-front : (xs : List X) (n i : ℕ) (x : X) → i < n → slice_get xs i ≡ Some x → slice_get (take n xs) i ≡ Some x
  get-front [] n i x h e = absurd (cc)
  get-front (y ∷ ys) zero i x h e = absurd (omega arith)
  get-front (y ∷ ys) (suc n) zero x h e = e
  get-front (y ∷ ys) (suc n) (suc i) x h e = get-front ys n i x (omega arith) e

  get-from : (xs : List X) (n j i : ℕ) (x : X) → n + j ≡ i → slice_get xs i ≡ Some x → slice_get (drop n xs) j ≡ Some x
  get-from xs zero j i x h e = let same : j ≡ i = omega arith in rw same e
  get-from [] (suc n) j i x h e = absurd (cc)
  get-from (y ∷ ys) (suc n) j zero x h e = absurd (omega arith)
  get-from (y ∷ ys) (suc n) j (suc i) x h e = get-from ys n j i x (omega arith) e

  pub one-group : (xs : List X) (i : ℕ) (x y : X) → i < length xs → x ≡ get_or xs i x → y ≡ get_or xs i y → y ≡ x
  one-group [] i x y h e f = absurd (omega arith)
  one-group (z ∷ zs) zero x y h e f = f ∙ sym e
  one-group (z ∷ zs) (suc i) x y h e f = one-group zs i x y (omega arith) e f

  cut-following : (xs : List X) (n m : ℕ) → drop n xs ≡ take m (drop n xs) ++ drop (n + m) xs
  cut-following xs n m = sym (take-append-drop m (drop n xs)) ∙ ap (λ (ys : List X). take m (drop n xs) ++ ys) (drop-drop m n xs)

-- ---- the points of ranges that are added to a batch

pub kept-more : (es : List Ends) (e : Ends) (x : ℕ) → in_ends x es ≡ true → in_ends x (es ++ e ∷ []) ≡ true
kept-more es e x h = list_any-append (is_between x) es (e ∷ []) ∙ or-left _ _ h

pub new-more : (es : List Ends) (e : Ends) (x : ℕ) → is_between x e ≡ true → in_ends x (es ++ e ∷ []) ≡ true
new-more es e x h = list_any-append (is_between x) es (e ∷ []) ∙ or-right _ _ (or-left _ _ h)

or-false : (a b : Bool) → (a || b) ≡ false → (a ≡ false) × (b ≡ false)
or-false true b e = absurd (cc)
or-false false b e = (refl, e)

no-piece : (k : Key) (x : ℕ) (rs : List Resource) → has_point x rs ≡ false → has_piece k (point x) rs ≡ false
no-piece k x [] e = refl
no-piece k x (r ∷ rs) e =
    let parts : (piece_in (point x) r.value ≡ false) × (has_point x rs ≡ false) = or-false _ _ e in
    or-none _ _ (and_right _ _ parts.0) (no-piece k x rs parts.1)

-- ---- a batch and the tasks after it

module _ {G : Type 0} (of : G → List TaskInfo) (os : List G) (at : ℕ) (o : G) (within : at < length os) (is : o ≡ get_or os at o) (tasks : List TaskInfo) (are : tasks ≡ of o) where
  following-batch : (end : ℕ) → end ≤ length (of o) → (test : Resource → Bool)
      → list_any test (asked (drop (place of os at end) (launched of os))) ≡ (list_any test (asked (drop end tasks)) || list_any test (asked (launched of (drop (at + 1) os))))
  following-batch end inside test =
      ap (λ (ts : List TaskInfo). list_any test (asked ts)) (drop-from of os at o within is end inside)
      ∙ asked-parts test (drop end (of o)) (launched of (drop (at + 1) os))
      ∙ ap (λ (ts : List TaskInfo). list_any test (asked (drop end ts)) || list_any test (asked (launched of (drop (at + 1) os)))) (sym are)

  -- no point of the batch is in a later task of its group, or in a later group
  free-following : (es : List Ends) (first count : ℕ) → first + count ≤ length (of o)
      → ((x : ℕ) → has_point x (asked (take count (drop first tasks))) ≡ true → in_ends x es ≡ true)
      → Apart (λ x. in_ends x es) (λ x. has_point x (asked (drop (first + count) tasks)))
      → Apart (λ x. in_ends x es) (λ x. has_point x (asked (launched of (drop (at + 1) os))))
      → (i : ℕ) (t : TaskInfo) → first ≤ i → i < first + count → slice_get tasks i ≡ Some t → FreeFrom of os at (first + count) (λ x. has_point x t.resources)
  free-following es first count inside taken own later i t from to at_i x has =
      let there : slice_get (take count (drop first tasks)) (i - first) ≡ Some t = get-front (drop first tasks) count (i - first) t (omega arith) (get-from tasks first (i - first) i t (omega arith) at_i) in
      let among : has_point x (asked (take count (drop first tasks))) ≡ true =
      any-flat_map (λ (r : Resource). piece_in (point x) r.value) (λ (u : TaskInfo). u.resources) (take count (drop first tasks))
      ∙ any-at (λ (u : TaskInfo). has_point x u.resources) (take count (drop first tasks)) (i - first) t there has in
      following-batch (first + count) inside (λ r. piece_in (point x) r.value) ∙ or-none _ _ (own x (taken x among)) (later x (taken x among))

  pub is-batch : (es ends : List Ends) (first count : ℕ) (apart : Bool) (from following : List TaskInfo) (later : List G) → first < length (of o)
      → from ≡ drop first tasks → following ≡ drop (first + count) tasks → later ≡ drop (at + 1) os → ends ≡ es → count ≤ length from
      → ((x : ℕ) → has_point x (asked (take count from)) ≡ true → in_ends x es ≡ true)
      → Apart (λ x. in_ends x ends) (λ x. has_point x (asked following)) → (apart ≡ true → Apart (λ x. in_ends x ends) (λ x. has_point x (asked (launched of later))))
      → IsBatch of os at (record { first = first; end = first + count; apart = apart })
  is-batch es ends first count apart from following later begins is_from is_behind is_later is_ends room taken own groups =
      let inside : first + count ≤ length (of o) = omega (arith, begins, room, ap (length {A = TaskInfo}) is_from, length-drop first tasks, ap (length {A = TaskInfo}) are) in
      let same : (group : G) → group ≡ get_or os at group → of group ≡ of o = λ group e. ap of (one-group os at o group within is e) in
      record {
        within = λ group e. omega (arith, inside, ap (length {A = TaskInfo}) (same group e));
        apart = λ all group e i t from_i to_i at_i.
            free-following es first count inside (λ x h. taken x (ap (λ (ts : List TaskInfo). has_point x (asked (take count ts))) is_from ∙ h))
            (λ x h. ap (λ (ts : List TaskInfo). has_point x (asked ts)) (sym is_behind) ∙ own x (ap (in_ends x) is_ends ∙ h))
            (λ x h. ap (λ (gs : List G). has_point x (asked (launched of gs))) (sym is_later) ∙ groups all x (ap (in_ends x) is_ends ∙ h))
            i t from_i to_i (ap (λ (ts : List TaskInfo). slice_get ts i) (are ∙ sym (same group e)) ∙ at_i);
      }

  pub following-task : (t end : ℕ) → t < end → end ≤ length (of o) → (test : Resource → Bool)
      → list_any test (asked (drop (place of os at t + 1) (launched of os))) ≡ (list_any test (asked (take (end - (t + 1)) (drop (t + 1) tasks))) || list_any test (asked (drop (place of os at end) (launched of os))))
  following-task t end less inside test =
      let sum : place of os at t + 1 + (end - (t + 1)) ≡ place of os at end = omega arith in
      let near : take (end - (t + 1)) (drop (place of os at t + 1) (launched of os)) ≡ take (end - (t + 1)) (drop (t + 1) tasks) =
      ap (take (end - (t + 1))) (drop-place of os at o within is t (omega arith))
      ∙ take-append-le (end - (t + 1)) (drop (t + 1) (of o)) (launched of (drop (at + 1) os)) (omega (arith, length-drop (t + 1) (of o)))
      ∙ ap (λ (ts : List TaskInfo). take (end - (t + 1)) (drop (t + 1) ts)) (sym are) in
      ap (λ (ts : List TaskInfo). list_any test (asked ts))
      (cut-following (launched of os) (place of os at t + 1) (end - (t + 1))
      ∙ ap (λ (ts : List TaskInfo). ts ++ drop (place of os at t + 1 + (end - (t + 1))) (launched of os)) near
      ∙ ap (λ n. take (end - (t + 1)) (drop (t + 1) tasks) ++ drop n (launched of os)) sum)
      ∙ asked-parts test (take (end - (t + 1)) (drop (t + 1) tasks)) (drop (place of os at end) (launched of os))

-- a search for a point may end with the batch, if no later task has the point
pub meets-near : (v : ResourceValue) (g : Ranges) (k : Key) (near following all : List Resource) (b : Bool) → v ≡ OfRanges g
    → ((test : Resource → Bool) → list_any test all ≡ (list_any test near || list_any test following)) → Apart (λ x. piece_in (point x) v) (λ x. has_point x following)
    → Meets (λ p. piece_in p v) (λ p. has_piece k p near) b → Meets (λ p. piece_in p v) (λ p. has_piece k p all) b
meets-near v g k near following all true is parts free m = (m.0, m.1, parts (piece_of k m.0) ∙ or-left _ _ m.2)
meets-near v g k near following all false is parts free m = λ p e. elim p as (λ (q : Piece). piece_in q v ≡ true → has_piece k q all ≡ false) [
  | point x ↦ λ has. parts (piece_of k (point x)) ∙ or-none _ _ (m (point x) has) (no-piece k x following (free x has))
  | item n ↦ λ has. (let none : piece_in (item n) v ≡ false = rw is refl in absurd (cc))
] e

pub resource-free : (rs qs : List Resource) (j : ℕ) (r : Resource) → qs ≡ rs → j < length rs → r ≡ get_or qs j r → (x : ℕ) → piece_in (point x) r.value ≡ true → has_point x rs ≡ true
resource-free rs qs j r are within is x e =
    any-at (λ (q : Resource). piece_in (point x) q.value) rs j r (get-at rs j r within (is ∙ ap (λ (ps : List Resource). get_or ps j r) are)) e
