-- If the tasks of a call fit the offers taken, the launched tasks among them fit too.
use Rattle.std.proofs.Common.{◌≡◌, ℕ, zero, suc, ◌+◌, ◌≤◌, Bool, true, false, ◌||◌, ◌&&◌, not, if◌then◌else◌, Some, None, Option, List, [], ◌∷◌, ◌++◌, slice_get, refl, sym, ap, subst, ◌∙◌, append_assoc, arith}
use Rattle.std.specs.List.{list_any}
use Rattle.std.specs.List.Sorted.{IsPermutation}
use Rattle.std.proofs.lemmas.List.Folds.{list_any-append}
use Rattle.std.proofs.lemmas.List.Sums.{sum_by-append}
use Rattle.mes_model.specs.Resource.{Resource}
use Rattle.mes_model.specs.Id.{Id}
use Rattle.mes_model.specs.Offer.{Offer}
use Rattle.mes_model.specs.TaskInfo.{TaskInfo}
use Rattle.mes_msg.specs.Call.{Call}
use Rattle.mes_msg.specs.Call.TheVariants as of
use Rattle.mes_session_fit.specs.Keys.{Key}
use Rattle.mes_session_fit.specs.Fits.{amount_of, amount, piece_of, offered, asked, others, Fits}
use Rattle.mes_session_fit.specs.Launched.{launched, launched_by}
use Rattle.mes_session_fit.proofs.FitsLemmas.{fits-order}
use Rattle.mes_session_state.specs.Calls.{framework_of, tasks_of}
use Rattle.mes_session_state.specs.Refusals.{is_among}
use Rattle.mes_double_master.specs.Masters.{MasterState, MasterAnswer, plain, subscribed, all_there, new_tasks, launchable, accepted, agrees, carried_out, is_named, in_stream, is_subscribe, handled}

or-right : (a b : Bool) → b ≡ true → (a || b) ≡ true
or-right true b e = refl
or-right false b e = e

or-more : (a b c : Bool) → (b ≡ true → c ≡ true) → (a || b) ≡ true → (a || c) ≡ true
or-more true b c f e = refl
or-more false b c f e = f e

free-less : (a b c : Bool) → (a && not b) ≡ true → (c ≡ true → b ≡ true) → (a && not c) ≡ true
free-less false b c e f = absurd (cc)
free-less true b false e f = refl
free-less true b true e f = (let g : b ≡ true = f refl in let h : (true && not b) ≡ false = rw g refl in absurd (cc))

any-front : (test : Resource → Bool) (t : TaskInfo) (ts : List TaskInfo) → list_any test (asked (t ∷ ts)) ≡ (list_any test t.resources || list_any test (asked ts))
any-front test t ts = list_any-append test t.resources (asked ts)

any-more : (test : Resource → Bool) (front : List TaskInfo) (t : TaskInfo) (ts : List TaskInfo) → list_any test (asked (front ++ ts)) ≡ true → list_any test (asked (front ++ t ∷ ts)) ≡ true
any-more test [] t ts e = any-front test t ts ∙ or-right _ _ e
any-more test (x ∷ front) t ts e =
    any-front test x (front ++ t ∷ ts) ∙ or-more _ _ _ (any-more test front t ts) (sym (any-front test x (front ++ ts)) ∙ e)

others-next : (i : ℕ) (x : TaskInfo) (ts : List TaskInfo) → others (suc i) (x ∷ ts) ≡ x ∷ others i ts
others-next i x ts = (let e : suc i + 1 ≡ suc (i + 1) = omega arith in rw e refl)

pub record Represents (front : List TaskInfo) (t : TaskInfo) (ts : List TaskInfo) (i : ℕ) (u : TaskInfo) : Type 0 where
  pub place : ℕ
  pub there : slice_get (front ++ t ∷ ts) place ≡ Some u
  pub more : (test : Resource → Bool) → list_any test (asked (others i (front ++ ts))) ≡ true → list_any test (asked (others place (front ++ t ∷ ts))) ≡ true

represents : (front : List TaskInfo) (t : TaskInfo) (ts : List TaskInfo) (i : ℕ) (u : TaskInfo) → slice_get (front ++ ts) i ≡ Some u → Represents front t ts i u
represents [] t ts i u e = record {
  place = suc i;
  there = e;
  more = λ test h. ap (λ (l : List TaskInfo). list_any test (asked l)) (others-next i t ts) ∙ any-front test t (others i ts) ∙ or-right _ _ h;
}
represents (x ∷ front) t ts zero u e = record { place = 0; there = e; more = λ test h. any-more test front t ts h }
represents (x ∷ front) t ts (suc i) u e =
    let s : Represents front t ts i u = represents front t ts i u e in
    record {
      place = suc s.place;
      there = s.there;
      more = λ test h.
          ap (λ (l : List TaskInfo). list_any test (asked l)) (others-next s.place x (front ++ t ∷ ts))
          ∙ any-front test x (others s.place (front ++ t ∷ ts))
          ∙ or-more _ _ _ (s.more test) (sym (any-front test x (others i (front ++ ts))) ∙ sym (ap (λ (l : List TaskInfo). list_any test (asked l)) (others-next i x (front ++ ts))) ∙ h);
    }

amount-front : (k : Key) (t : TaskInfo) (ts : List TaskInfo) → amount k (asked (t ∷ ts)) ≡ amount k t.resources + amount k (asked ts)
amount-front k t ts = sum_by-append (amount_of k) t.resources (asked ts)

amount-less : (k : Key) (front : List TaskInfo) (t : TaskInfo) (ts : List TaskInfo) → amount k (asked (front ++ ts)) ≤ amount k (asked (front ++ t ∷ ts))
amount-less k [] t ts = (let e : amount k (asked (t ∷ ts)) ≡ amount k t.resources + amount k (asked ts) = amount-front k t ts in omega arith)
amount-less k (x ∷ front) t ts =
    let a : amount k (asked (x ∷ front ++ ts)) ≡ amount k x.resources + amount k (asked (front ++ ts)) = amount-front k x (front ++ ts) in
    let b : amount k (asked (x ∷ front ++ t ∷ ts)) ≡ amount k x.resources + amount k (asked (front ++ t ∷ ts)) = amount-front k x (front ++ t ∷ ts) in
    let c : amount k (asked (front ++ ts)) ≤ amount k (asked (front ++ t ∷ ts)) = amount-less k front t ts in
    omega arith

-- if tasks fit the offers, they also fit without one of the tasks
pub fits-less : (os : List Offer) (front : List TaskInfo) (t : TaskInfo) (ts : List TaskInfo) → Fits os (front ++ t ∷ ts) → Fits os (front ++ ts)
fits-less os front t ts f = record {
  amounts = λ k. (let less : amount k (asked (front ++ ts)) ≤ amount k (asked (front ++ t ∷ ts)) = amount-less k front t ts in let all : amount k (asked (front ++ t ∷ ts)) ≤ amount k (offered os) = f.amounts k in omega arith);
  pieces = λ i u e k p has. (let s : Represents front t ts i u = represents front t ts i u e in free-less _ _ _ (f.pieces s.place u s.there k p has) (s.more (piece_of k p)));
}

pub fits-new : (os : List Offer) (front : List TaskInfo) (known : List Id) (ts : List TaskInfo) → Fits os (front ++ ts) → Fits os (front ++ new_tasks known ts)
fits-new os front known [] f = f
fits-new os front known (t ∷ ts) f = by (is_among t.task_id known) refl (λ some ids. fits-new os some ids ts)
  where
    by : (b : Bool) → is_among t.task_id known ≡ b → ((some : List TaskInfo) (ids : List Id) → Fits os (some ++ ts) → Fits os (some ++ new_tasks ids ts)) → Fits os (front ++ new_tasks known (t ∷ ts))
    by true e rest = rw e (rest front known (fits-less os front t ts f))
    by false e rest =
        rw e (subst (Fits os) (append_assoc front (t ∷ []) _)
        (rest (front ++ t ∷ []) (known ++ t.task_id ∷ []) (subst (Fits os) (sym (append_assoc front (t ∷ []) ts)) f)))

pub fits-nothing : (os : List Offer) → Fits os []
fits-nothing os = record { amounts = λ k. omega arith; pieces = λ i t e k p has. absurd (cc) }

-- ---- for each call, the launched tasks fit the offers taken

abbrev pub FitsRan : Call → MasterAnswer → Type 0
FitsRan call a = (os : List Offer) → IsPermutation os a.took → Fits os (tasks_of call) → Fits a.took a.ran

ran-out : (m : MasterState) (call : Call) → FitsRan call (carried_out m call)
ran-out m (of.Accept framework body) os moved f = by (all_there m.outstanding body.offer_ids) refl
  where
    by : (b : Bool) → all_there m.outstanding body.offer_ids ≡ b
        → Fits (accepted m body.offer_ids (launched launched_by body.operations)).took (launchable m body.offer_ids (launched launched_by body.operations))
    by true e = rw e (fits-new _ [] m.launched (launched launched_by body.operations) (fits-order os _ (launched launched_by body.operations) moved f))
    by false e = rw e (fits-nothing _)
ran-out m (of.Subscribe framework body) os moved f = fits-nothing _
ran-out m (of.Decline framework body) os moved f = fits-nothing _
ran-out m (of.Revive framework) os moved f = fits-nothing _
ran-out m (of.Kill framework body) os moved f = fits-nothing _
ran-out m (of.Acknowledge framework body) os moved f = fits-nothing _
ran-out m (of.Reconcile framework body) os moved f = fits-nothing _
ran-out m (of.Teardown framework) os moved f = fits-nothing _
ran-out m (of.Suppress framework) os moved f = fits-nothing _
ran-out m (of.Shutdown framework body) os moved f = fits-nothing _
ran-out m (of.Message framework body) os moved f = fits-nothing _

if-ran : (call : Call) (b : Bool) (a c : MasterAnswer) → FitsRan call a → FitsRan call c → FitsRan call (if b then a else c)
if-ran call true a c f g = f
if-ran call false a c f g = g

plain-ran : (call : Call) (m : MasterState) (status : ℕ) → FitsRan call (plain status m)
plain-ran call m status os moved f = fits-nothing _

subscribed-ran : (call : Call) (m : MasterState) (uuids : List (List ℕ)) → FitsRan call (subscribed m uuids)
subscribed-ran call m [] os moved f = fits-nothing _
subscribed-ran call m (u ∷ us) os moved f = fits-nothing _

stream-ran : (m : MasterState) (call : Call) (current given : Option (List ℕ)) → FitsRan call (in_stream m call current given)
stream-ran m call None given = plain-ran call m 403
stream-ran m call (Some current) given = if-ran call (is_named current given) _ _ (ran-out m call) (plain-ran call m 400)

pub fits-ran : (m : MasterState) (call : Call) (given : Option (List ℕ)) → FitsRan call (handled m call given)
fits-ran m call given =
    if-ran call (m.down || not (agrees m.framework (framework_of call))) _ _ (plain-ran call m 403)
    (if-ran call (is_subscribe call) _ _ (subscribed-ran call m m.ids) (stream-ran m call m.stream given))
