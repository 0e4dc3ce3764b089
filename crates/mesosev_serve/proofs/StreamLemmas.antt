-- Which of the given events are sent on a stream, and that each of them may follow those before it.
use Rattle.std.proofs.Common.{◌≡◌, ◌⊎◌, inl, inr, ℕ, Bool, true, false, ◌||◌, not, ◌==◌, if◌then◌else◌, List, [], ◌∷◌, ◌++◌, Option, Some, None, is_some, Ok, Err, refl, sym, ap, subst, ◌∙◌, append_assoc, arith}
use Rattle.std.specs.List.{flat_map, list_any}
use Rattle.std.specs.Str.{bytes_eq}
use Rattle.std.proofs.lemmas.Bool.{or_cases, or_from, or_left, or_right, or_parts, both_ways, false_from_ne_true, eqb-true}
use Rattle.std.proofs.lemmas.List.{append-nil, flat_map_more}
use Rattle.std.proofs.lemmas.List.Concat.{flat_map-append}
use Rattle.std.proofs.lemmas.List.Folds.{list_any-append}
use Rattle.std.proofs.lemmas.Slice.Eq.{bytes_eq-Decides}
use Rattle.mes_model.specs.Id.{Id}
use Rattle.mes_model.specs.Offer.{Offer}
use Rattle.mes_model.specs.OwedKey.{OwedKey}
use Rattle.mes_model.specs.TaskStatus.{TaskStatus}
use Rattle.mes_model.specs.Owed.{owed_key_of}
use Rattle.mes_msg.specs.Call.{Call}
use Rattle.mes_msg.specs.Event.{Event}
use Rattle.mes_msg.specs.Event.TheVariants as event
use Rattle.mes_session.specs.Held.{name_of, offer_in, with_offers, without_offer}
use Rattle.mes_double_master.specs.declared.refusal.MasterRefusal.TheVariants.{NoStream, OfferTwice, NoSuchOffer, UpdateTwice}
use Rattle.mes_double_master.specs.Masters.{MasterState, MasterAnswer, same_id, is_there, has_update, plain, subscribed, subscribed_event, update_event, in_stream, is_named, is_subscribe, handled}
use Rattle.mes_double_master.specs.Sending.{Sends, on_stream, offer_ids, is_duplicate, made, reported, reported_unacknowledged, updated}
use Rattle.mesosev_serve.specs.Opening.{Streamed, and_sent, and_given, and_all_given, opening}
use Rattle.mesosev_serve.specs.OneStream.{IsSublist, offers_by, offered_in, rescinds_by, rescinded_in, owing_of, owing_by, owing_in, rescind_of, is_among, IsNewUpdate, MayFollow, AllFollow, IsOneStream, IsStreamReply}
use Rattle.mesosev_serve.specs.Replying.{Service, Replies, service, streamed, reply_to_fault, reply_to_text}
use Rattle.mesosev_serve.specs.declared.request.ParsedRequest.{ParsedRequest}
use Rattle.mesosev_serve.specs.declared.request.ParsedRequest.TheVariants.{NoRequest, NoCall, Calls}
use Rattle.mesosev_serve.specs.declared.response.Reply.{Reply}
use Rattle.mesosev_serve.specs.declared.response.Reply.TheVariants.{Status}
use Rattle.mes_double_http.specs.declared.fault.HeadFault.{HeadFault}
use Rattle.mes_double_http.specs.declared.fault.HeadFault.TheVariants as fault
use Rattle.mes_msg.specs.RecordFault.{RecordFault}
use Rattle.mes_msg.specs.RecordFault.TheVariants as unread
use Rattle.mesosev_serve.proofs.CarriedLemmas.{not_carried}

-- ---- identifiers in lists of identifiers

among-left : (d : Id) (a b : List Id) → is_among d a ≡ true → is_among d (a ++ b) ≡ true
among-left d a b h = list_any-append (same_id d) a b ∙ or_left _ _ h

among-right : (d : Id) (a b : List Id) → is_among d b ≡ true → is_among d (a ++ b) ≡ true
among-right d a b h = list_any-append (same_id d) a b ∙ or_right _ _ h

-- equal identifiers occur in the same lists
among-same : (d e : Id) (ids : List Id) → same_id d e ≡ true → is_among d ids ≡ is_among e ids
among-same d e ids same = ap (λ (v : List ℕ). list_any (λ (y : Id). bytes_eq v y.value) ids) ((bytes_eq-Decides d.value e.value).0 same)

-- if `is_duplicate ks ds` is false, no identifier d of ds occurs in ks
new-apart : (d : Id) (ks ds : List Id) → is_duplicate ks ds ≡ false → is_among d ds ≡ true → is_among d ks ≡ false
new-apart d ks [] none h = absurd (cc)
new-apart d ks (x ∷ xs) none h = by (or_cases (same_id d x) (is_among d xs) h) (λ g. new-apart d ks xs both.1 g)
  where
    both : ((is_among x ks || is_among x xs) ≡ false) × (is_duplicate ks xs ≡ false)
    both = or_parts _ _ none

    by : (same_id d x ≡ true) ⊎ (is_among d xs ≡ true) → (is_among d xs ≡ true → is_among d ks ≡ false) → is_among d ks ≡ false
    by (inl g) rest = among-same d x ks g ∙ (or_parts _ _ both.0).0
    by (inr g) rest = rest g

-- ---- identifiers of outstanding offers

abbrev named : Id → Offer → Bool
named d o = same_id d o.id

there-any : (d : Id) (os : List Offer) → is_there os d ≡ list_any (named d) os
there-any d [] = refl
there-any d (o ∷ os) = by (named d o) (there-any d os)
  where
    by : (b : Bool) → is_there os d ≡ list_any (named d) os → is_some (if b then Some o else offer_in os d.value) ≡ (b || list_any (named d) os)
    by true rest = refl
    by false rest = rest

among-offers : (d : Id) (os : List Offer) → list_any (named d) os ≡ is_among d (offer_ids os)
among-offers d [] = refl
among-offers d (o ∷ os) = ap (λ (b : Bool). same_id d o.id || b) (among-offers d os)

-- an offer in the list after x is added was in the list before, or is x
any-put : (p : Offer → Bool) (os : List Offer) (x : Offer) → list_any p (with_offers os (x ∷ [])) ≡ true → (list_any p os ≡ true) ⊎ (p x ≡ true)
any-put p [] x h = elim (or_cases (p x) false h) [
  | inl g ↦ inr g
  | inr g ↦ inl g
]
any-put p (y ∷ ys) x h = by (bytes_eq (name_of x) (name_of y)) h (any-put p ys x)
  where
    later : (list_any p ys ≡ true) ⊎ (p x ≡ true) → (list_any p (y ∷ ys) ≡ true) ⊎ (p x ≡ true)
    later (inl g) = inl (or_right (p y) _ g)
    later (inr g) = inr g

    first : (p x ≡ true) ⊎ (list_any p ys ≡ true) → (list_any p (y ∷ ys) ≡ true) ⊎ (p x ≡ true)
    first (inl g) = inr g
    first (inr g) = inl (or_right (p y) _ g)

    kept : (p y ≡ true) ⊎ (list_any p (with_offers ys (x ∷ [])) ≡ true)
        → (list_any p (with_offers ys (x ∷ [])) ≡ true → (list_any p ys ≡ true) ⊎ (p x ≡ true)) → (list_any p (y ∷ ys) ≡ true) ⊎ (p x ≡ true)
    kept (inl g) rest = inl (or_left (p y) (list_any p ys) g)
    kept (inr g) rest = later (rest g)

    by : (b : Bool) → list_any p (if b then x ∷ ys else y ∷ with_offers ys (x ∷ [])) ≡ true
        → (list_any p (with_offers ys (x ∷ [])) ≡ true → (list_any p ys ≡ true) ⊎ (p x ≡ true)) → (list_any p (y ∷ ys) ≡ true) ⊎ (p x ≡ true)
    by true h rest = first (or_cases (p x) (list_any p ys) h)
    by false h rest = kept (or_cases (p y) (list_any p (with_offers ys (x ∷ []))) h) rest

any-with : (p : Offer → Bool) (os news : List Offer) → list_any p (with_offers os news) ≡ true → (list_any p os ≡ true) ⊎ (list_any p news ≡ true)
any-with p os [] h = inl h
any-with p os (x ∷ news) h = by (any-with p (with_offers os (x ∷ [])) news h)
  where
    put-in : (list_any p os ≡ true) ⊎ (p x ≡ true) → (list_any p os ≡ true) ⊎ (list_any p (x ∷ news) ≡ true)
    put-in (inl g) = inl g
    put-in (inr g) = inr (or_left (p x) (list_any p news) g)

    by : (list_any p (with_offers os (x ∷ [])) ≡ true) ⊎ (list_any p news ≡ true) → (list_any p os ≡ true) ⊎ (list_any p (x ∷ news) ≡ true)
    by (inl g) = put-in (any-put p os x g)
    by (inr g) = inr (or_right (p x) _ g)

-- a and b differ, if c equals a and differs from b
apart-by : (a b c : List ℕ) → bytes_eq a c ≡ true → bytes_eq b c ≡ false → bytes_eq a b ≡ false
apart-by a b c same other =
    false_from_ne_true (bytes_eq a b)
    (λ t. both_ways (bytes_eq b c) other (ap (λ (v : List ℕ). bytes_eq v c) (sym ((bytes_eq-Decides a b).0 t)) ∙ same))

-- an offer that remains once the offer `gone` is removed was in the list, and is not `gone`
any-without : (d gone : Id) (os : List Offer) → list_any (named d) (without_offer gone.value os) ≡ true → (list_any (named d) os ≡ true) × (same_id d gone ≡ false)
any-without d gone [] h = absurd (cc)
any-without d gone (o ∷ os) h = by (same_id gone o.id) refl h (any-without d gone os)
  where
    stays : same_id gone o.id ≡ false → (named d o ≡ true) ⊎ (list_any (named d) (without_offer gone.value os) ≡ true)
        → (list_any (named d) (without_offer gone.value os) ≡ true → (list_any (named d) os ≡ true) × (same_id d gone ≡ false))
        → (list_any (named d) (o ∷ os) ≡ true) × (same_id d gone ≡ false)
    stays e (inl g) rest = (or_left (named d o) (list_any (named d) os) g, apart-by d.value gone.value o.id.value g e)
    stays e (inr g) rest = (or_right (named d o) _ (rest g).0, (rest g).1)

    by : (b : Bool) → same_id gone o.id ≡ b → list_any (named d) (if not b then o ∷ without_offer gone.value os else without_offer gone.value os) ≡ true
        → (list_any (named d) (without_offer gone.value os) ≡ true → (list_any (named d) os ≡ true) × (same_id d gone ≡ false))
        → (list_any (named d) (o ∷ os) ≡ true) × (same_id d gone ≡ false)
    by true e h rest = (or_right (named d o) _ (rest h).0, (rest h).1)
    by false e h rest = stays e (or_cases (named d o) (list_any (named d) (without_offer gone.value os)) h) rest

there-with : (d : Id) (os news : List Offer) → is_there (with_offers os news) d ≡ true → (is_there os d ≡ true) ⊎ (is_among d (offer_ids news) ≡ true)
there-with d os news h = by (any-with (named d) os news (sym (there-any d (with_offers os news)) ∙ h))
  where
    by : (list_any (named d) os ≡ true) ⊎ (list_any (named d) news ≡ true) → (is_there os d ≡ true) ⊎ (is_among d (offer_ids news) ≡ true)
    by (inl g) = inl (there-any d os ∙ g)
    by (inr g) = inr (sym (among-offers d news) ∙ g)

there-without : (d gone : Id) (os : List Offer) → is_there (without_offer gone.value os) d ≡ true → (is_there os d ≡ true) × (same_id d gone ≡ false)
there-without d gone os h =
    let left : (list_any (named d) os ≡ true) × (same_id d gone ≡ false) =
    any-without d gone os (sym (there-any d (without_offer gone.value os)) ∙ h) in
    (there-any d os ∙ left.0, left.1)

-- ---- the state of a master after some events of a stream

-- `now` is the state of a master that had the state m before a stream with the offers `offered`,
-- the rescinded offers `rescinded` and the updates `owing`
record Known (m : MasterState) (offered rescinded : List Id) (owing : List (OwedKey × TaskStatus)) (now : MasterState) : Type 0 where
  pub offered_is : now.offered ≡ m.offered ++ offered
  pub owing_is : now.owing ≡ m.owing ++ owing
  pub there : (d : Id) → is_there now.outstanding d ≡ true → (is_among d offered ≡ true) × (is_among d rescinded ≡ false)
  pub rescinded_is : (d : Id) → is_among d rescinded ≡ true → is_among d offered ≡ true

abbrev Stands : MasterState → List Event → MasterState → Type 0
Stands m front now = Known m (offered_in front) (rescinded_in front) (owing_in front) now

moved : (m now : MasterState) (o p r q : List Id) (w v : List (OwedKey × TaskStatus)) → o ≡ p → r ≡ q → w ≡ v → Known m o r w now → Known m p q v now
moved m now o p r q w v e f g k =
    subst (λ (x : List Id). Known m x q v now) e
    (subst (λ (x : List Id). Known m o x v now) f
    (subst (λ (x : List (OwedKey × TaskStatus)). Known m o r x now) g k))

module _ {X : Type 0} (f : Event → List X) (front : List Event) (e : Event) where
  brings : flat_map f front ++ f e ≡ flat_map f (front ++ e ∷ [])
  brings = flat_map_more f [] front e

  brings-none : f e ≡ [] → flat_map f front ≡ flat_map f (front ++ e ∷ [])
  brings-none none = sym (append-nil (flat_map f front)) ∙ ap (λ (l : List X). flat_map f front ++ l) (sym none) ∙ brings

module _ (m : MasterState) (o r : List Id) (w : List (OwedKey × TaskStatus)) (now : MasterState) (k : Known m o r w now) where
  offers-known : (offers : List Offer) → is_duplicate (m.offered ++ o) (offer_ids offers) ≡ false → Known m (o ++ offer_ids offers) r w (made now offers).1
  offers-known offers none = record {
    offered_is = ap (λ (l : List Id). l ++ offer_ids offers) k.offered_is ∙ append_assoc m.offered o (offer_ids offers);
    owing_is = k.owing_is;
    there = λ d h. by d (there-with d now.outstanding offers h);
    rescinded_is = λ d y. among-left d o (offer_ids offers) (k.rescinded_is d y);
  }
    where
      by : (d : Id) → (is_there now.outstanding d ≡ true) ⊎ (is_among d (offer_ids offers) ≡ true) → (is_among d (o ++ offer_ids offers) ≡ true) × (is_among d r ≡ false)
      by d (inl g) = (among-left d o (offer_ids offers) (k.there d g).0, (k.there d g).1)
      by d (inr g) = (
        among-right d o (offer_ids offers) g,
        false_from_ne_true (is_among d r)
            (λ y. both_ways (is_among d (m.offered ++ o)) (new-apart d (m.offered ++ o) (offer_ids offers) none g) (among-right d m.offered o (k.rescinded_is d y))),
      )

  rescind-known : (gone : Id) → is_there now.outstanding gone ≡ true → Known m o (r ++ gone ∷ []) w (record now { outstanding = without_offer gone.value now.outstanding })
  rescind-known gone here = record {
    offered_is = k.offered_is;
    owing_is = k.owing_is;
    there = λ d h. by d (there-without d gone now.outstanding h);
    rescinded_is = λ d y. was d (or_cases (is_among d r) (is_among d (gone ∷ [])) (sym (list_any-append (same_id d) r (gone ∷ [])) ∙ y));
  }
    where
      by : (d : Id) → (is_there now.outstanding d ≡ true) × (same_id d gone ≡ false) → (is_among d o ≡ true) × (is_among d (r ++ gone ∷ []) ≡ false)
      by d s = ((k.there d s.0).0, list_any-append (same_id d) r (gone ∷ []) ∙ or_from _ _ (k.there d s.0).1 (or_from _ _ s.1 refl))

      same : (d : Id) → (same_id d gone ≡ true) ⊎ (false ≡ true) → is_among d o ≡ true
      same d (inl g) = among-same d gone o g ∙ (k.there gone here).0
      same d (inr g) = absurd (cc)

      was : (d : Id) → (is_among d r ≡ true) ⊎ (is_among d (gone ∷ []) ≡ true) → is_among d o ≡ true
      was d (inl g) = k.rescinded_is d g
      was d (inr g) = same d (or_cases (same_id d gone) false g)

  told-known : (status : TaskStatus) → Known m o r (w ++ []) (reported now status)
  told-known status = record {
    offered_is = k.offered_is;
    owing_is = k.owing_is ∙ ap (λ (l : List (OwedKey × TaskStatus)). m.owing ++ l) (sym (append-nil w));
    there = k.there;
    rescinded_is = k.rescinded_is;
  }

  owing-known : (status : TaskStatus) (key : OwedKey) → Known m o r (w ++ (key, status) ∷ []) (reported_unacknowledged now key status)
  owing-known status key = record {
    offered_is = k.offered_is;
    owing_is = ap (λ (l : List (OwedKey × TaskStatus)). l ++ (key, status) ∷ []) k.owing_is ∙ append_assoc m.owing w ((key, status) ∷ []);
    there = k.there;
    rescinded_is = k.rescinded_is;
  }

-- ---- one given event

-- the given event e is skipped; or e is sent, `May` holds, and `Later` holds for the new state of
-- the master
data Step (s t : Streamed) (e : Event) (May : Type 0) (Later : MasterState → Type 0) : Type 0 where
  skipped : t ≡ s → Step s t e May Later
  sent : t.events ≡ s.events ++ e ∷ [] → May → Later t.master → Step s t e May Later

later-is : (s t : Streamed) (e : Event) (May : Type 0) (A B : MasterState → Type 0) → ((now : MasterState) → A now → B now) → Step s t e May A → Step s t e May B
later-is s t e May A B f (skipped is) = skipped is
later-is s t e May A B f (sent more may now) = sent more may (f t.master now)

on-stream : (s : Streamed) (e : Event) (May : Type 0) (Later : MasterState → Type 0) (sends : Sends) → Step s (and_sent s sends) e May Later
    → Step s (and_sent s (on_stream s.master sends)) e May Later
on-stream s e May Later sends step = by (is_some s.master.stream)
  where
    by : (b : Bool) → Step s (and_sent s (if b then sends else Err NoStream)) e May Later
    by true = step
    by false = skipped refl

module _ (m : MasterState) (front : List Event) (s : Streamed) (k : Stands m front s.master) where
  abbrev StepBy : Event → Streamed → Type 0
  StepBy e t = Step s t e (MayFollow m front e) (Stands m (front ++ e ∷ []))

  offers-step : (offers : List Offer) → StepBy (event.Offers offers) (and_given s (event.Offers offers))
  offers-step offers =
      on-stream s (event.Offers offers) (MayFollow m front (event.Offers offers)) (Stands m (front ++ event.Offers offers ∷ []))
      (if is_duplicate s.master.offered (offer_ids offers) then Err OfferTwice else Ok (made s.master offers)) (by (is_duplicate s.master.offered (offer_ids offers)) refl)
    where
      by : (b : Bool) → is_duplicate s.master.offered (offer_ids offers) ≡ b → StepBy (event.Offers offers) (and_sent s (if b then Err OfferTwice else Ok (made s.master offers)))
      by true again = skipped refl
      by false again =
          let none : is_duplicate (m.offered ++ offered_in front) (offer_ids offers) ≡ false =
          subst (λ (l : List Id). is_duplicate l (offer_ids offers) ≡ false) k.offered_is again in
          sent refl none
          (moved m (made s.master offers).1 _ _ _ _ _ _ (brings offers_by front (event.Offers offers)) (brings-none rescinds_by front (event.Offers offers) refl) (brings-none owing_by front (event.Offers offers) refl)
          (offers-known m _ _ _ s.master k offers none))

  rescind-step : (id : Id) → StepBy (rescind_of id) (and_given s (rescind_of id))
  rescind-step id =
      on-stream s (rescind_of id) (MayFollow m front (rescind_of id)) (Stands m (front ++ rescind_of id ∷ []))
      (if is_there s.master.outstanding id then Ok (rescind_of id, record s.master { outstanding = without_offer id.value s.master.outstanding }) else Err NoSuchOffer)
      (by (is_there s.master.outstanding id) refl)
    where
      by : (b : Bool) → is_there s.master.outstanding id ≡ b
          → StepBy (rescind_of id) (and_sent s (if b then Ok (rescind_of id, record s.master { outstanding = without_offer id.value s.master.outstanding }) else Err NoSuchOffer))
      by true here =
          sent refl (k.there id here)
          (moved m _ _ _ _ _ _ _ (brings-none offers_by front (rescind_of id) refl) (brings rescinds_by front (rescind_of id)) (brings-none owing_by front (rescind_of id) refl)
          (rescind-known m _ _ _ s.master k id here))
      by false none = skipped refl

  update-step : (status : TaskStatus) → StepBy (update_event status) (and_given s (update_event status))
  update-step status =
      on-stream s (update_event status) (MayFollow m front (update_event status)) (Stands m (front ++ update_event status ∷ [])) (updated s.master status (owed_key_of status))
      (later-is s (and_sent s (updated s.master status (owed_key_of status))) (update_event status) (MayFollow m front (update_event status))
      (λ x. Known m (offered_in front) (rescinded_in front) (owing_in front ++ owing_of status (owed_key_of status)) x) (Stands m (front ++ update_event status ∷ []))
      (λ now known. moved m now _ _ _ _ _ _ (brings-none offers_by front (update_event status) refl) (brings-none rescinds_by front (update_event status) refl) (brings owing_by front (update_event status)) known)
      (by (owed_key_of status)))
    where
      owing : (key : OwedKey) (b : Bool) → has_update s.master.owing key ≡ b
          → Step s (and_sent s (if b then Err UpdateTwice else Ok (update_event status, reported_unacknowledged s.master key status))) (update_event status) (has_update (m.owing ++ owing_in front) key ≡ false)
          (λ x. Known m (offered_in front) (rescinded_in front) (owing_in front ++ (key, status) ∷ []) x)
      owing key true again = skipped refl
      owing key false again =
          sent refl (subst (λ (l : List (OwedKey × TaskStatus)). has_update l key ≡ false) k.owing_is again)
          (owing-known m _ _ _ s.master k status key)

      by : (key : Option OwedKey) → Step s (and_sent s (updated s.master status key)) (update_event status) (IsNewUpdate (m.owing ++ owing_in front) key)
          (λ x. Known m (offered_in front) (rescinded_in front) (owing_in front ++ owing_of status key) x)
      by None = sent refl tt (told-known m _ _ _ s.master k status)
      by (Some key) = owing key (has_update s.master.owing key) refl

  -- the state after an event without offers, rescinds and updates that require an acknowledgement
  other-step : (e : Event) → offers_by e ≡ [] → rescinds_by e ≡ [] → owing_by e ≡ [] → Stands m (front ++ e ∷ []) s.master
  other-step e a b c = moved m s.master _ _ _ _ _ _ (brings-none offers_by front e a) (brings-none rescinds_by front e b) (brings-none owing_by front e c) k

  given-step : (e : Event) → StepBy e (and_given s e)
  given-step (event.Subscribed body) = skipped refl
  given-step (event.Offers offers) = offers-step offers
  given-step (event.Rescind body) = rescind-step body.offer_id
  given-step (event.Update body) = update-step body.status
  given-step (event.Message body) = sent refl tt (other-step (event.Message body) refl refl refl)
  given-step (event.Failure body) = sent refl tt (other-step (event.Failure body) refl refl refl)
  given-step (event.Error body) = sent refl tt (other-step (event.Error body) refl refl refl)
  given-step event.Heartbeat = sent refl tt (other-step event.Heartbeat refl refl refl)
  given-step (event.Other name) = sent refl tt (other-step (event.Other name) refl refl refl)

-- ---- several given events

-- the events `rest` were sent after those of s: some of the given events, and each may follow
record GoOut (m : MasterState) (front given : List Event) (s end : Streamed) : Type 0 where
  pub rest : List Event
  pub events : end.events ≡ s.events ++ rest
  pub some : IsSublist rest given
  pub follow : AllFollow m front rest

go-out : (m : MasterState) (front given : List Event) (s : Streamed) → Stands m front s.master → GoOut m front given s (and_all_given s given)
go-out m front [] s k = record { rest = []; events = sym (append-nil s.events); some = refl; follow = tt }
go-out m front (e ∷ given) s k = by (and_given s e) (given-step m front s k e) (λ f t g. go-out m f given t g)
  where
    by : (t : Streamed) → Step s t e (MayFollow m front e) (Stands m (front ++ e ∷ []))
        → ((f : List Event) (t : Streamed) → Stands m f t.master → GoOut m f given t (and_all_given t given)) → GoOut m front (e ∷ given) s (and_all_given t given)
    by t (skipped is) rest =
        let r : GoOut m front given s (and_all_given s given) = rest front s k in
        record {
          rest = r.rest;
          events = ap (λ (x : Streamed). (and_all_given x given).events) is ∙ r.events;
          some = inl r.some;
          follow = r.follow;
        }
    by t (sent more may now) rest =
        let r : GoOut m (front ++ e ∷ []) given t (and_all_given t given) = rest (front ++ e ∷ []) t now in
        record {
          rest = e ∷ r.rest;
          events = r.events ∙ ap (λ (l : List Event). l ++ r.rest) more ∙ append_assoc s.events (e ∷ []) r.rest;
          some = inr (r.rest, refl, r.some);
          follow = (may, r.follow);
        }

-- ---- the stream that a SUBSCRIBE opens meets `IsOneStream`

subscribed-one : (m : MasterState) (uuids : List (List ℕ)) (given : List Event) → (subscribed m uuids).status ≡ 200
    → IsOneStream m given (and_all_given (opening (subscribed m uuids)) given).events
subscribed-one m [] given e = absurd (omega arith)
subscribed-one m (uuid ∷ uuids) given e =
    let r : GoOut m [] given (opening (subscribed m (uuid ∷ uuids))) (and_all_given (opening (subscribed m (uuid ∷ uuids))) given) =
    go-out m [] given (opening (subscribed m (uuid ∷ uuids)))
    (record {
      offered_is = sym (append-nil m.offered);
      owing_is = sym (append-nil m.owing);
      there = λ d h. absurd (cc);
      rescinded_is = λ d h. absurd (cc);
    }) in
    record { rest = r.rest; begins = r.events; some = r.some; follow = r.follow }

-- only SUBSCRIBE has status 200
pub opens-one : (m : MasterState) (call : Call) (stream : Option (List ℕ)) (given : List Event) → (handled m call stream).status ≡ 200
    → (is_subscribe call ≡ true) × IsOneStream m given (and_all_given (opening (handled m call stream)) given).events
opens-one m call stream given e = by _ (is_subscribe call) m.stream e
  where
    by : (b c : Bool) (s : Option (List ℕ)) → (if b then plain 403 m else (if c then subscribed m m.ids else in_stream m call s stream)).status ≡ 200
        → (c ≡ true) × IsOneStream m given (and_all_given (opening (if b then plain 403 m else (if c then subscribed m m.ids else in_stream m call s stream))) given).events
    by true c s e = absurd (omega arith)
    by false true s e = (refl, subscribed-one m m.ids given e)
    by false false None e = absurd (omega arith)
    by false false (Some current) e = absurd (not_carried m call (is_named current stream) e)

-- ---- the stream of a response meets `IsOneStream`

-- the response of a master to a call: a stream if b is true, or another status
abbrev served : MasterAnswer → List Event → Bool → Service
served answer given b = if b then streamed answer.master.stream (and_all_given (opening answer) given) else record { reply = Status answer.status; master = answer.master }

module _ (m : MasterState) (given : List Event) where
  fault-reply : (f : HeadFault) → IsStreamReply m given (reply_to_fault f)
  fault-reply fault.WrongPath = tt
  fault-reply fault.WrongMethod = tt
  fault-reply fault.Read = tt
  fault-reply fault.ShortBody = tt
  fault-reply fault.NoMemory = tt
  fault-reply _ = tt

  text-reply : (f : RecordFault) → IsStreamReply m given (reply_to_text f)
  text-reply unread.NoMemory = tt
  text-reply _ = tt

  streamed-reply : (id : Option (List ℕ)) (s : Streamed) → IsOneStream m given s.events → IsStreamReply m given (streamed id s).reply
  streamed-reply None s one = tt
  streamed-reply (Some id) s one = one

  call-reply : (call : Call) (stream : Option (List ℕ)) → IsStreamReply m given (service (handled m call stream) given).reply
  call-reply call stream = by ((handled m call stream).status == 200) refl
    where
      by : (b : Bool) → ((handled m call stream).status == 200) ≡ b → IsStreamReply m given (served (handled m call stream) given b).reply
      by true e =
          streamed-reply (handled m call stream).master.stream (and_all_given (opening (handled m call stream)) given)
          (opens-one m call stream given (eqb-true (handled m call stream).status 200 e)).1
      by false e = tt

  pub one-reply : (asked : ParsedRequest) (reply : Reply) (later : MasterState) → Replies m given asked reply later → IsStreamReply m given reply
  one-reply (NoRequest f) reply later r = subst (IsStreamReply m given) (sym r.0) (fault-reply f)
  one-reply (NoCall f) reply later r = subst (IsStreamReply m given) (sym r.0) (text-reply f)
  one-reply (Calls stream call) reply later (inl r) = subst (IsStreamReply m given) (sym r.0) (call-reply call stream)
  one-reply (Calls stream call) reply later (inr r) = subst (IsStreamReply m given) (sym r.0) tt

-- ---- no RESCIND is sent twice

follow-at : (m : MasterState) (front events back : List Event) (e : Event) → AllFollow m front (events ++ e ∷ back) → MayFollow m (front ++ events) e
follow-at m front [] back e all = subst (λ (l : List Event). MayFollow m l e) (sym (append-nil front)) all.0
follow-at m front (x ∷ events) back e all =
    subst (λ (l : List Event). MayFollow m l e) (append_assoc front (x ∷ []) events) (follow-at m (front ++ x ∷ []) events back e all.1)

rescinded-there : (id : Id) (front between : List Event) → is_among id (rescinded_in (front ++ rescind_of id ∷ between)) ≡ true
rescinded-there id front between =
    ap (is_among id) (flat_map-append rescinds_by front (rescind_of id ∷ between))
    ∙ among-right id (rescinded_in front) (id ∷ rescinded_in between) (or_left (same_id id id) _ ((bytes_eq-Decides id.value id.value).1 refl))

never-twice : (m : MasterState) (rest front between back : List Event) (id : Id) → rest ≡ front ++ (rescind_of id ∷ (between ++ (rescind_of id ∷ back))) → AllFollow m [] rest → ⊥
never-twice m rest front between back id is all =
    let joined : (front ++ (rescind_of id ∷ between)) ++ (rescind_of id ∷ back) ≡ front ++ (rescind_of id ∷ (between ++ (rescind_of id ∷ back))) =
    append_assoc front (rescind_of id ∷ between) (rescind_of id ∷ back) in
    let at : rest ≡ (front ++ (rescind_of id ∷ between)) ++ (rescind_of id ∷ back) = is ∙ sym joined in
    let may : MayFollow m (front ++ rescind_of id ∷ between) (rescind_of id) =
    follow-at m [] (front ++ rescind_of id ∷ between) back (rescind_of id) (subst (λ (l : List Event). AllFollow m [] l) at all) in
    both_ways (is_among id (rescinded_in (front ++ rescind_of id ∷ between))) may.1 (rescinded-there id front between)

pub rescinds-once : (m : MasterState) (given front between back : List Event) (id : Id) → IsOneStream m given (front ++ (rescind_of id ∷ (between ++ (rescind_of id ∷ back)))) → ⊥
rescinds-once m given [] between back id one = (let e : rescind_of id ∷ (between ++ (rescind_of id ∷ back)) ≡ subscribed_event m.framework m.interval ∷ one.rest = one.begins in absurd (cc))
rescinds-once m given (x ∷ front) between back id one =
    never-twice m one.rest front between back id
    (let e : x ∷ (front ++ (rescind_of id ∷ (between ++ (rescind_of id ∷ back)))) ≡ subscribed_event m.framework m.interval ∷ one.rest = one.begins in
    let f : front ++ (rescind_of id ∷ (between ++ (rescind_of id ∷ back))) ≡ one.rest = cc in sym f)
    one.follow
