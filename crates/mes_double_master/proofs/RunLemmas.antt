-- In any sequence of calls, events and broken streams no offer is taken twice and no task is launched twice. The
-- proof counts how often each identifier occurs.
use Rattle.std.proofs.Common.{◌≡◌, ℕ, ◌+◌, ◌≤◌, Bool, true, false, ◌||◌, not, if◌then◌else◌, fold, slice_get, List, [], ◌∷◌, ◌++◌, Option, Some, None, is_some, Ok, Err, refl, sym, ap, subst, ◌∙◌, append_assoc, arith}
use Rattle.std.specs.Str.{bytes_eq}
use Rattle.std.proofs.lemmas.Slice.Eq.{bytes_eq-Decides}
use Rattle.std.proofs.lemmas.Bool.{or_from, or_parts}
use Rattle.std.proofs.lemmas.List.{append-nil}
use Rattle.mes_model.specs.Id.{Id}
use Rattle.mes_model.specs.Offer.{Offer}
use Rattle.mes_model.specs.OwedKey.{OwedKey}
use Rattle.mes_model.specs.TaskInfo.{TaskInfo}
use Rattle.mes_model.specs.TaskStatus.{TaskStatus}
use Rattle.mes_model.specs.Owed.{owed_key_of}
use Rattle.mes_msg.specs.Event.TheVariants as event
use Rattle.mes_msg.specs.Call.{Call}
use Rattle.mes_msg.specs.Call.TheVariants as of
use Rattle.mes_session_fit.specs.Launched.{launched, launched_by}
use Rattle.mes_session_state.specs.Keeping.{put}
use Rattle.mes_session_state.specs.Held.{name_of, names, without_offer, without_offers, with_offers}
use Rattle.mes_session_state.specs.Calls.{framework_of}
use Rattle.mes_session_state.specs.Refusals.{is_among, is_duplicated, ids_of}
use Rattle.mes_double_master_state.proofs.IdLemmas.{comes_more}
use Rattle.mes_double_master.specs.declared.refusal.MasterRefusal.TheVariants.{OfferTwice, NoSuchOffer}
use Rattle.mes_double_master.specs.Masters.{MasterState, MasterAnswer, plain, subscribed, is_there, all_there, named, new_tasks, launchable, accepted, declined, has_update, agrees, carried_out, is_named, in_stream, is_subscribe, handled, stream_broke}
use Rattle.mes_double_master.specs.Sending.{Sends, on_stream, offer_ids, is_duplicate, made, reported, reported_unacknowledged, updated, waiting, resent}
use Rattle.mes_double_master.specs.Runs.{master_with, Deed, Past, after_call, after_sending, after, past_of, LaunchedOnce, TakenOnce}
use Rattle.mes_double_master.specs.Runs.Deed.{handles, offers, rescinds, updates, resends, breaks}

-- ---- how often an identifier occurs in a list

abbrev pub times : List ℕ → List Id → ℕ
times x [] = 0
times x (d ∷ ds) = (if bytes_eq x d.value then 1 else 0) + times x ds

pub times-append : (x : List ℕ) (front bs : List Id) → times x (front ++ bs) ≡ times x front + times x bs
times-append x [] bs = omega arith
times-append x (d ∷ ds) bs = omega (arith, times-append x ds bs)

absent : (d : Id) (ds : List Id) → is_among d ds ≡ false → times d.value ds ≡ 0
absent d [] e = refl
absent d (x ∷ xs) e =
    let p : (bytes_eq d.value x.value ≡ false) × (is_among d xs ≡ false) = or_parts _ _ e in
    rw p.0 (omega (arith, absent d xs p.1))

present : (d : Id) (ds : List Id) → is_among d ds ≡ true → 1 ≤ times d.value ds
present d [] e = absurd (cc)
present d (x ∷ xs) e = by (bytes_eq d.value x.value) refl e (present d xs)
  where
    by : (b : Bool) → bytes_eq d.value x.value ≡ b → (b || is_among d xs) ≡ true → (is_among d xs ≡ true → 1 ≤ times d.value xs) → 1 ≤ times d.value (x ∷ xs)
    by true f e rest = rw f (omega arith)
    by false f e rest = rw f (omega (arith, rest e))

one-more : (x : List ℕ) (ks : List Id) (d : Id) → is_among d ks ≡ false → times x ks ≤ 1 → times x (ks ++ d ∷ []) ≤ 1
one-more x ks d none h = by (bytes_eq x d.value) refl
  where
    by : (b : Bool) → bytes_eq x d.value ≡ b → times x (ks ++ d ∷ []) ≤ 1
    by true e =
        let zero_times : times x ks ≡ 0 = ap (λ (y : List ℕ). times y ks) ((bytes_eq-Decides x d.value).0 e) ∙ absent d ks none in
        rw (times-append x ks (d ∷ []), e) (omega arith)
    by false e = rw (times-append x ks (d ∷ []), e) (omega arith)

abbrev pub Once : List Id → Type 0
Once ds = (x : List ℕ) → times x ds ≤ 1

pub distinct : (ds : List Id) → Once ds → is_duplicated ds ≡ false
distinct [] once = refl
distinct (d ∷ ds) once = or_from _ _ (by (is_among d ds) refl) (distinct ds (λ x. omega (arith, once x)))
  where
    by : (b : Bool) → is_among d ds ≡ b → is_among d ds ≡ false
    by false e = e
    by true e =
        let two : times d.value (d ∷ ds) ≤ 1 = once d.value in
        let same : bytes_eq d.value d.value ≡ true = (bytes_eq-Decides d.value d.value).1 refl in
        let more : 1 ≤ times d.value ds = present d ds e in
        let two_there : 1 + times d.value ds ≤ 1 = rw same at two in
        absurd (omega arith)

-- ---- identifiers of new tasks and new offers occur once

pub new-once : (ks : List Id) (ts : List TaskInfo) → Once ks → Once (ks ++ ids_of (new_tasks ks ts))
new-once ks [] once = subst Once (sym (append-nil ks)) once
new-once ks (t ∷ ts) once = by (is_among t.task_id ks) refl (λ known. new-once known ts)
  where
    by : (b : Bool) → is_among t.task_id ks ≡ b → ((known : List Id) → Once known → Once (known ++ ids_of (new_tasks known ts))) → Once (ks ++ ids_of (new_tasks ks (t ∷ ts)))
    by true e rest = rw e (rest ks once)
    by false e rest = rw e (subst Once (append_assoc ks (t.task_id ∷ []) _) (rest (ks ++ t.task_id ∷ []) (λ x. one-more x ks t.task_id e (once x))))

pub offered-once : (ks ds : List Id) → is_duplicate ks ds ≡ false → Once ks → Once (ks ++ ds)
offered-once ks [] none once = subst Once (sym (append-nil ks)) once
offered-once ks (d ∷ ds) none once =
    let both : ((is_among d ks || is_among d ds) ≡ false) × (is_duplicate ks ds ≡ false) = or_parts _ _ none in
    let first : (is_among d ks ≡ false) × (is_among d ds ≡ false) = or_parts _ _ both.0 in
    subst Once (append_assoc ks (d ∷ []) ds) (offered-once (ks ++ d ∷ []) ds (comes_more ks d ds both.1 first.1) (λ x. one-more x ks d first.0 (once x)))

-- ---- how often an identifier occurs after offers are removed or added

split : (x : List ℕ) (ids : List Id) (os : List Offer) → times x (offer_ids (named ids os)) + times x (offer_ids (without_offers ids os)) ≡ times x (offer_ids os)
split x ids [] = refl
split x ids (o ∷ os) = by (names ids o) refl (split x ids os)
  where
    by : (b : Bool) → names ids o ≡ b → times x (offer_ids (named ids os)) + times x (offer_ids (without_offers ids os)) ≡ times x (offer_ids os)
        → times x (offer_ids (named ids (o ∷ os))) + times x (offer_ids (without_offers ids (o ∷ os))) ≡ times x (offer_ids (o ∷ os))
    by true e rest = rw e (omega (arith, rest))
    by false e rest = rw e (omega (arith, rest))

fewer : (x name : List ℕ) (os : List Offer) → times x (offer_ids (without_offer name os)) ≤ times x (offer_ids os)
fewer x name [] = omega arith
fewer x name (o ∷ os) = by (bytes_eq name (name_of o)) refl (fewer x name os)
  where
    by : (b : Bool) → bytes_eq name (name_of o) ≡ b → times x (offer_ids (without_offer name os)) ≤ times x (offer_ids os) → times x (offer_ids (without_offer name (o ∷ os))) ≤ times x (offer_ids (o ∷ os))
    by true e rest = rw e (omega (arith, rest))
    by false e rest = rw e (omega (arith, rest))

put-times : (x : List ℕ) (os : List Offer) (o : Offer) → times x (offer_ids (put bytes_eq name_of os o)) ≤ times x (offer_ids os) + times x (o.id ∷ [])
put-times x [] o = omega arith
put-times x (y ∷ ys) o = by (bytes_eq (name_of o) (name_of y)) refl (put-times x ys o)
  where
    by : (b : Bool) → bytes_eq (name_of o) (name_of y) ≡ b → times x (offer_ids (put bytes_eq name_of ys o)) ≤ times x (offer_ids ys) + times x (o.id ∷ [])
        → times x (offer_ids (put bytes_eq name_of (y ∷ ys) o)) ≤ times x (offer_ids (y ∷ ys)) + times x (o.id ∷ [])
    by true e rest = rw e (omega arith)
    by false e rest = rw e (omega (arith, rest))

with-times : (x : List ℕ) (os news : List Offer) → times x (offer_ids (with_offers os news)) ≤ times x (offer_ids os) + times x (offer_ids news)
with-times x os [] = omega arith
with-times x os (o ∷ news) = omega (arith, put-times x os o, with-times x (put bytes_eq name_of os o) news)

-- ---- `Fine`: what holds of every response to a call

pub record Fine (m : MasterState) (a : MasterAnswer) : Type 0 where
  pub offered : a.master.offered ≡ m.offered
  pub moved : (x : List ℕ) → times x (offer_ids a.took) + times x (offer_ids a.master.outstanding) ≤ times x (offer_ids m.outstanding)
  pub launched : a.master.launched ≡ m.launched ++ ids_of a.ran
  pub once : Once m.launched → Once (m.launched ++ ids_of a.ran)

none-ran : (ks : List Id) → Once ks → Once (ks ++ [])
none-ran ks once = subst Once (sym (append-nil ks)) once

fine-plain : (m : MasterState) (status : ℕ) → Fine m (plain status m)
fine-plain m status = record { offered = refl; moved = λ x. omega arith; launched = sym (append-nil m.launched); once = none-ran m.launched }

fine-subscribed : (m : MasterState) (uuids : List (List ℕ)) → Fine m (subscribed m uuids)
fine-subscribed m [] = fine-plain m 403
fine-subscribed m (u ∷ us) = record { offered = refl; moved = λ x. omega arith; launched = sym (append-nil m.launched); once = none-ran m.launched }

fine-accepted : (m : MasterState) (ids : List Id) (tasks : List TaskInfo) → Fine m (accepted m ids tasks)
fine-accepted m ids tasks = record { offered = refl; moved = λ x. omega (arith, split x ids m.outstanding); launched = refl; once = by (all_there m.outstanding ids) refl }
  where
    by : (b : Bool) → all_there m.outstanding ids ≡ b → Once m.launched → Once (m.launched ++ ids_of (launchable m ids tasks))
    by true e once = rw e (new-once m.launched tasks once)
    by false e once = rw e (none-ran m.launched once)

fine-declined : (m : MasterState) (ids : List Id) → Fine m (declined m ids)
fine-declined m ids = record { offered = refl; moved = λ x. omega (arith, split x ids m.outstanding); launched = sym (append-nil m.launched); once = none-ran m.launched }

fine-out : (m : MasterState) (call : Call) → Fine m (carried_out m call)
fine-out m (of.Accept framework body) = fine-accepted m body.offer_ids (launched launched_by body.operations)
fine-out m (of.Decline framework body) = fine-declined m body.offer_ids
fine-out m (of.Acknowledge framework body) = record { offered = refl; moved = λ x. omega arith; launched = sym (append-nil m.launched); once = none-ran m.launched }
fine-out m (of.Reconcile framework body) = record { offered = refl; moved = λ x. omega arith; launched = sym (append-nil m.launched); once = none-ran m.launched }
fine-out m (of.Teardown framework) = record { offered = refl; moved = λ x. omega arith; launched = sym (append-nil m.launched); once = none-ran m.launched }
fine-out m (of.Subscribe framework body) = fine-plain m 202
fine-out m (of.Revive framework) = fine-plain m 202
fine-out m (of.Kill framework body) = fine-plain m 202
fine-out m (of.Suppress framework) = fine-plain m 202
fine-out m (of.Shutdown framework body) = fine-plain m 202
fine-out m (of.Message framework body) = fine-plain m 202

if-fine : (m : MasterState) (b : Bool) (a c : MasterAnswer) → Fine m a → Fine m c → Fine m (if b then a else c)
if-fine m true a c f g = f
if-fine m false a c f g = g

fine-in : (m : MasterState) (call : Call) (current given : Option (List ℕ)) → Fine m (in_stream m call current given)
fine-in m call None given = fine-plain m 403
fine-in m call (Some current) given = if-fine m (is_named current given) _ _ (fine-out m call) (fine-plain m 400)

pub fine : (m : MasterState) (call : Call) (given : Option (List ℕ)) → Fine m (handled m call given)
fine m call given =
    if-fine m (m.down || not (agrees m.framework (framework_of call))) _ _ (fine-plain m 403)
    (if-fine m (is_subscribe call) _ _ (fine-subscribed m m.ids) (fine-in m call m.stream given))

-- ---- `Sound`: what holds after any sequence of calls, events and broken streams

pub record Sound (past : Past) : Type 0 where
  -- each offer that was taken or is outstanding was made, and no offer is counted twice
  pub took : (x : List ℕ) → times x (offer_ids past.took) + times x (offer_ids past.master.outstanding) ≤ times x past.master.offered
  pub offered : Once past.master.offered
  pub ran : past.master.launched ≡ ids_of past.ran
  pub launched : Once past.master.launched

ids-append : (front bs : List TaskInfo) → ids_of (front ++ bs) ≡ ids_of front ++ ids_of bs
ids-append [] bs = refl
ids-append (a ∷ more) bs = ap (λ (l : List Id). a.task_id ∷ l) (ids-append more bs)

offers-append : (front bs : List Offer) → offer_ids (front ++ bs) ≡ offer_ids front ++ offer_ids bs
offers-append [] bs = refl
offers-append (a ∷ more) bs = ap (λ (l : List Id). a.id ∷ l) (offers-append more bs)

sound-call : (past : Past) (a : MasterAnswer) → Fine past.master a → Sound past → Sound (after_call past a)
sound-call past a f s = record {
  took = λ x.
      let both : times x (offer_ids (past.took ++ a.took)) ≡ times x (offer_ids past.took) + times x (offer_ids a.took) =
      ap (times x) (offers-append past.took a.took) ∙ times-append x (offer_ids past.took) (offer_ids a.took) in
      let same : times x a.master.offered ≡ times x past.master.offered = ap (times x) f.offered in
      let less : times x (offer_ids a.took) + times x (offer_ids a.master.outstanding) ≤ times x (offer_ids past.master.outstanding) = f.moved x in
      let before : times x (offer_ids past.took) + times x (offer_ids past.master.outstanding) ≤ times x past.master.offered = s.took x in
      omega arith;
  offered = subst Once (sym f.offered) s.offered;
  ran = f.launched ∙ ap (λ (l : List Id). l ++ ids_of a.ran) s.ran ∙ sym (ids-append past.ran a.ran);
  launched = subst Once (sym f.launched) (f.once s.launched);
}

on : (past : Past) (sends : Sends) → Sound past → Sound (after_sending past sends) → Sound (after_sending past (on_stream past.master sends))
on past sends s t = by (is_some past.master.stream) refl
  where
    by : (b : Bool) → is_some past.master.stream ≡ b → Sound (after_sending past (on_stream past.master sends))
    by true e = rw e t
    by false e = rw e s

sound-offers : (past : Past) (list : List Offer) → Sound past → Sound (after past (offers list))
sound-offers past list s = on past _ s (by (is_duplicate past.master.offered (offer_ids list)) refl)
  where
    by : (b : Bool) → is_duplicate past.master.offered (offer_ids list) ≡ b
        → Sound (after_sending past (if is_duplicate past.master.offered (offer_ids list) then Err OfferTwice else Ok (made past.master list)))
    by true e = rw e s
    by false e = rw e (record {
      took = λ x. omega (arith, s.took x, with-times x past.master.outstanding list, times-append x past.master.offered (offer_ids list));
      offered = offered-once past.master.offered (offer_ids list) e s.offered;
      ran = s.ran;
      launched = s.launched;
    })

sound-rescind : (past : Past) (name : List ℕ) → Sound past → Sound (after past (rescinds name))
sound-rescind past name s = on past _ s (by (is_there past.master.outstanding (record { value = name })) refl)
  where
    by : (b : Bool) → is_there past.master.outstanding (record { value = name }) ≡ b
        → Sound (after_sending past (if is_there past.master.outstanding (record { value = name }) then Ok (event.Rescind (record { offer_id = record { value = name } }), record past.master { outstanding = without_offer name past.master.outstanding }) else Err NoSuchOffer))
    by true e = rw e (record { took = λ x. omega (arith, s.took x, fewer x name past.master.outstanding); offered = s.offered; ran = s.ran; launched = s.launched })
    by false e = rw e s

kept : (past : Past) (m : MasterState) → m.offered ≡ past.master.offered → m.outstanding ≡ past.master.outstanding → m.launched ≡ past.master.launched → Sound past → Sound (record past { master = m })
kept past m e f g s = record {
  took = λ x. rw (e, f) (s.took x);
  offered = rw e s.offered;
  ran = g ∙ s.ran;
  launched = rw g s.launched;
}

sound-updated : (past : Past) (status : TaskStatus) (key : Option OwedKey) → Sound past → Sound (after_sending past (updated past.master status key))
sound-updated past status None s = kept past (reported past.master status) refl refl refl s
sound-updated past status (Some key) s = by (has_update past.master.owing key) refl
  where
    by : (b : Bool) → has_update past.master.owing key ≡ b → Sound (after_sending past (updated past.master status (Some key)))
    by true e = rw e s
    by false e = rw e (kept past (reported_unacknowledged past.master key status) refl refl refl s)

sound-resent : (past : Past) (e : Option (OwedKey × TaskStatus)) → Sound past → Sound (after_sending past (resent past.master e))
sound-resent past None s = s
sound-resent past (Some e) s = kept past past.master refl refl refl s

sound-broke : (past : Past) → Sound past → Sound (after past breaks)
sound-broke past s = by (is_some past.master.stream) refl
  where
    by : (b : Bool) → is_some past.master.stream ≡ b → Sound (record past { master = stream_broke past.master })
    by true e = rw e (record { took = λ x. omega (arith, s.took x); offered = s.offered; ran = s.ran; launched = s.launched })
    by false e = rw e s

sound-after : (past : Past) (deed : Deed) → Sound past → Sound (after past deed)
sound-after past (handles call stream) s = sound-call past _ (fine past.master call stream) s
sound-after past (offers list) s = sound-offers past list s
sound-after past (rescinds name) s = sound-rescind past name s
sound-after past (updates status) s = on past _ s (sound-updated past status (owed_key_of status) s)
sound-after past (resends index) s = on past _ s (sound-resent past (slice_get (waiting past.master.owing past.master.acked) index) s)
sound-after past breaks s = sound-broke past s

sound-run : (past : Past) (deeds : List Deed) → Sound past → Sound (fold after past deeds)
sound-run past [] s = s
sound-run past (d ∷ ds) s = sound-run (after past d) ds (sound-after past d s)

sound : (framework : Id) (ids : List (List ℕ)) (interval : Option ℕ) (deeds : List Deed) → Sound (past_of framework ids interval deeds)
sound framework ids interval deeds =
    sound-run (record { master = master_with framework ids interval; took = []; ran = [] }) deeds
    (record { took = λ x. omega arith; offered = λ x. omega arith; ran = refl; launched = λ x. omega arith })

pub launched-once : (framework : Id) (ids : List (List ℕ)) (interval : Option ℕ) (deeds : List Deed) → LaunchedOnce (past_of framework ids interval deeds)
launched-once framework ids interval deeds =
    (let s : Sound (past_of framework ids interval deeds) = sound framework ids interval deeds in record { launched = s.ran; once = distinct _ s.launched })

pub taken-once : (framework : Id) (ids : List (List ℕ)) (interval : Option ℕ) (deeds : List Deed) → TakenOnce (past_of framework ids interval deeds)
taken-once framework ids interval deeds =
    let s : Sound (past_of framework ids interval deeds) = sound framework ids interval deeds in
    let few : (x : List ℕ) → times x (offer_ids (past_of framework ids interval deeds).took) ≤ 1 = λ x. omega (arith, s.took x, s.offered x) in
    distinct _ few
