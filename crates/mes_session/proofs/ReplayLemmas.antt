-- Lemmas about replaying a history entry by entry: the calls so far are allowed, or the replay
-- stops.
use Rattle.std.proofs.Common.{◌≡◌, ℕ, zero, suc, ◌+◌, ◌<◌, ◌≤◌, ◌⊎◌, inl, inr, Some, List, [], ◌∷◌, ◌++◌, length, take, slice_get, refl, sym, ◌∙◌, ap, subst, arith, add-one, get_or}
use Rattle.mes_msg.specs.Call.{Call}
use Rattle.mes_msg.specs.declared.entry.Entry.{Entry}
use Rattle.mes_msg.specs.declared.entry.Entry.TheVariants.{Heard, Said, Broken}
use Rattle.mes_session_state.specs.declared.refusal.Refusal.{Refusal}
use Rattle.mes_session_state.specs.Held.{Held}
use Rattle.mes_session_state.specs.Refusals.{IsRefused}
use Rattle.mes_session.specs.History.{Represents, after, RefusedAfter, IsLegal, IsStopped, StopsAt}
use Rattle.mes_session.specs.Making.{Passes, IsTurnedAway}
use Rattle.mes_session.proofs.HistoryLemmas.{Represents-push, Represents-unique}

module _ {X : Type 0} where
  get-push : (xs : List X) (y : X) (i : ℕ) (x : X) → slice_get (xs ++ y ∷ []) i ≡ Some x
      → ((slice_get xs i ≡ Some x) × (take i (xs ++ y ∷ []) ≡ take i xs)) ⊎ ((y ≡ x) × (take i (xs ++ y ∷ []) ≡ xs))
  get-push [] y zero x e = inr ((let d : Some y ≡ Some x = e in cc), refl)
  get-push [] y (suc i) x e = absurd (cc)
  get-push (z ∷ zs) y zero x e = inl (e, refl)
  get-push (z ∷ zs) y (suc i) x e = elim (get-push zs y i x e) [
    | inl p ↦ inl (p.0, ap (λ (ys : List X). z ∷ ys) p.1)
    | inr p ↦ inr (p.0, ap (λ (ys : List X). z ∷ ys) p.1)
  ]

  take-get : (xs : List X) (i : ℕ) (x : X) → slice_get xs i ≡ Some x → take (suc i) xs ≡ take i xs ++ x ∷ []
  take-get [] i x e = absurd (cc)
  take-get (y ∷ ys) zero x e = let d : y ≡ x = cc in ap (λ (z : X). z ∷ []) d
  take-get (y ∷ ys) (suc i) x e = ap (λ (zs : List X). y ∷ zs) (take-get ys i x e)

  pub get-is : (xs : List X) (i : ℕ) (x : X) → i < length xs → x ≡ get_or xs i x → slice_get xs i ≡ Some x
  get-is [] i x h e = absurd (omega arith)
  get-is (y ∷ ys) zero x h e = ap Some (sym e)
  get-is (y ∷ ys) (suc i) x h e = get-is ys i x (omega arith) e

-- h, the first entries of a history, has no refused call and leads to the state s
pub record EntriesSoFar (h : List Entry) (s : Held) : Type 0 where
  pub legal : IsLegal h
  pub represents : Represents h s

pub so_far-nil : (s : Held) → Represents [] s → EntriesSoFar [] s
so_far-nil s represents = record { legal = λ i call fault e r. absurd (cc); represents = represents }

legal-push : (h : List Entry) (s : Held) (e : Entry) → EntriesSoFar h s → Passes s e → IsLegal (h ++ e ∷ [])
legal-push h s e far passes i call fault is refused = elim (get-push h e i (Said call) is) [
  | inl p ↦ far.legal i call fault p.0 (subst (λ (g : List Entry). RefusedAfter g call fault) p.1 refused)
  | inr p ↦ (let r : RefusedAfter h call fault = subst (λ (g : List Entry). RefusedAfter g call fault) p.1 refused in
      let same : r.0 ≡ s = Represents-unique h r.0 s r.1 far.represents in
      let q : Passes s (Said call) = subst (λ (d : Entry). Passes s d) p.0 passes in
      q fault (subst (λ (t : Held). IsRefused t call fault) same r.2).is)
]

pub so_far-push : (h : List Entry) (s t : Held) (e : Entry) (i : ℕ) → slice_get h i ≡ Some e → EntriesSoFar (take i h) s → Passes s e → t ≡ after s e → EntriesSoFar (take (i + 1) h) t
so_far-push h s t e i is far passes next =
    subst (λ (g : List Entry). EntriesSoFar g t) (sym (take-get h i e is) ∙ ap (λ (n : ℕ). take n h) (sym (add-one i)))
    (record { legal = legal-push (take i h) s e far passes; represents = subst (λ (u : Held). Represents (take i h ++ e ∷ []) u) (sym next) (Represents-push (take i h) s e far.represents) })

pub stops : (h : List Entry) (s : Held) (e : Entry) (i : ℕ) (reported : Refusal) → slice_get h i ≡ Some e → EntriesSoFar (take i h) s → IsTurnedAway s e reported → StopsAt h i reported
stops h s e i reported is far turned = record { front = far.legal; entry = e; is = is; stopped = go e turned }
  where
    go : (d : Entry) → IsTurnedAway s d reported → IsStopped (take i h) d reported
    go (Heard event) t = t
    go (Said call) t = (t.0, t.1, (s, far.represents, t.2))
    go Broken t = t

pub refused-once : ((held : Held) (call : Call) (fault other : Refusal) → IsRefused held call fault → IsRefused held call other → fault ≡ other)
    → (h : List Entry) (call : Call) (fault other : Refusal) → RefusedAfter h call fault → RefusedAfter h call other → fault ≡ other
refused-once once h call fault other a b =
    once a.0 call fault other a.2 (subst (λ (s : Held). IsRefused s call other) (Represents-unique h b.0 a.0 b.1 a.1) b.2)

take-past : {X : Type 0} (xs : List X) (n : ℕ) → length xs ≤ n → take n xs ≡ xs
take-past [] zero h = refl
take-past [] (suc n) h = refl
take-past (x ∷ xs) zero h = absurd (omega arith)
take-past {X = X} (x ∷ xs) (suc n) h = ap (λ (ys : List X). x ∷ ys) (take-past xs n (omega arith))

pub legal-whole : (h : List Entry) (s : Held) (n : ℕ) → length h ≤ n → EntriesSoFar (take n h) s → IsLegal h
legal-whole h s n past far = subst IsLegal (take-past h n past) far.legal
