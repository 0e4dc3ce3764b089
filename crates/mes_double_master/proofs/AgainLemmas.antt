-- A call with status 202 changes nothing if it is repeated.
use Rattle.std.proofs.Common.{◌≡◌, ℕ, Bool, true, false, ◌||◌, not, if◌then◌else◌, List, [], ◌∷◌, Option, Some, None, refl, sym, ap, ◌∙◌, arith}
use Rattle.std.specs.Str.{bytes_eq}
use Rattle.std.proofs.lemmas.Slice.Eq.{bytes_eq-Decides}
use Rattle.std.proofs.lemmas.List.{append-nil}
use Rattle.mes_model.specs.Id.{Id}
use Rattle.mes_model.specs.Offer.{Offer}
use Rattle.mes_model.specs.OwedKey.{OwedKey}
use Rattle.mes_model.specs.TaskInfo.{TaskInfo}
use Rattle.mes_msg.specs.Call.{Call}
use Rattle.mes_msg.specs.Call.TheVariants as of
use Rattle.mes_session_fit.specs.Launched.{launched, launched_by}
use Rattle.mes_session_state.specs.Held.{name_of, offer_in, names, without_offers, same_key, with_key}
use Rattle.mes_session_state.specs.Calls.{framework_of}
use Rattle.mes_double_master.specs.Masters.{MasterState, MasterAnswer, plain, subscribed, all_there, launchable, accepted, declined, has_update, acknowledged, key_in, agrees, carried_out, is_named, in_stream, is_subscribe, answered, handled}

-- ---- `bytes_eq` and `same_key` are reflexive

pub same_text : (a : List ℕ) → bytes_eq a a ≡ true
same_text a = (bytes_eq-Decides a a).1 refl

pub own_key : (k : OwedKey) → same_key k k ≡ true
own_key k = rw (same_text k.agent.value, same_text k.task.value, same_text k.uuid) refl

-- ---- offers that were removed are not outstanding

-- removing the same offers twice has the effect of removing them once
pub without_twice : (ids : List Id) (os : List Offer) → without_offers ids (without_offers ids os) ≡ without_offers ids os
without_twice ids [] = refl
without_twice ids (o ∷ os) = by (names ids o) refl (without_twice ids os)
  where
    by : (b : Bool) → names ids o ≡ b → without_offers ids (without_offers ids os) ≡ without_offers ids os → without_offers ids (without_offers ids (o ∷ os)) ≡ without_offers ids (o ∷ os)
    by true e rest = rw e rest
    by false e rest = rw (e, e) (ap (λ (l : List Offer). o ∷ l) rest)

pub gone : (d : Id) (ds : List Id) (os : List Offer) → offer_in (without_offers (d ∷ ds) os) d.value ≡ None
gone d ds [] = refl
gone d ds (o ∷ os) = by (bytes_eq d.value (name_of o)) refl (names (d ∷ ds) o) refl (gone d ds os)
  where
    by : (b : Bool) → bytes_eq d.value (name_of o) ≡ b → (c : Bool) → names (d ∷ ds) o ≡ c → offer_in (without_offers (d ∷ ds) os) d.value ≡ None
        → offer_in (without_offers (d ∷ ds) (o ∷ os)) d.value ≡ None
    by true e c f rest = rw e rest
    by false e true f rest = rw f rest
    by false e false f rest = rw (f, e) rest

pub none_there : (ids : List Id) (os : List Offer) → all_there (without_offers ids os) ids ≡ false
none_there [] os = refl
none_there (d ∷ ds) os = rw (gone d ds os) refl

-- ---- an ACCEPT, and other calls, twice: the state after the second is that after the first

pub accepted_twice : (m : MasterState) (ids : List Id) (tasks : List TaskInfo) → (accepted (accepted m ids tasks).master ids tasks).master ≡ (accepted m ids tasks).master
accepted_twice m ids tasks =
    let first : MasterState = (accepted m ids tasks).master in
    let none : launchable first ids tasks ≡ [] = rw (none_there ids m.outstanding) refl in
    let same : (accepted first ids tasks).master.launched ≡ first.launched = rw none (append-nil first.launched) in
    λ i. record first { outstanding = without_twice ids m.outstanding i; launched = same i }

pub declined_twice : (m : MasterState) (ids : List Id) → (declined (declined m ids).master ids).master ≡ (declined m ids).master
declined_twice m ids = λ i. record (declined m ids).master { outstanding = without_twice ids m.outstanding i }

pub key_twice : (ks : List OwedKey) (k : OwedKey) → with_key (with_key ks k) k ≡ with_key ks k
key_twice [] k = rw (own_key k) refl
key_twice (l ∷ ls) k = by (same_key k l) refl (key_twice ls k)
  where
    by : (b : Bool) → same_key k l ≡ b → with_key (with_key ls k) k ≡ with_key ls k → with_key (with_key (l ∷ ls) k) k ≡ with_key (l ∷ ls) k
    by true e rest = rw e (rw (own_key k) refl)
    by false e rest = rw (e, e) (ap (λ (r : List OwedKey). l ∷ r) rest)

pub acknowledged_twice : (m : MasterState) (k : OwedKey) → acknowledged (acknowledged m k) k ≡ acknowledged m k
acknowledged_twice m k = by (has_update m.owing k) refl
  where
    by : (b : Bool) → has_update m.owing k ≡ b → acknowledged (acknowledged m k) k ≡ acknowledged m k
    by true e = rw e (λ i. record m { acked = key_twice m.acked k i })
    by false e = rw e refl

-- ---- a call with status 202 was carried out

-- the call is not a SUBSCRIBE, is of the framework, and names the current stream
pub record IsOpen (m : MasterState) (call : Call) (given : Option (List ℕ)) : Type 0 where
  pub fine : (m.down || not (agrees m.framework (framework_of call))) ≡ false
  pub other : is_subscribe call ≡ false
  pub current : List ℕ
  pub stream : m.stream ≡ Some current
  pub named : is_named current given ≡ true

pub carried : (m : MasterState) (call : Call) (given : Option (List ℕ)) → IsOpen m call given → handled m call given ≡ carried_out m call
carried m call given o =
    ap (λ (b : Bool). if b then plain 403 m else answered m call given) o.fine
    ∙ ap (λ (b : Bool). if b then subscribed m m.ids else in_stream m call m.stream given) o.other
    ∙ ap (λ (s : Option (List ℕ)). in_stream m call s given) o.stream
    ∙ ap (λ (b : Bool). if b then carried_out m call else plain 400 m) o.named

subscribe_status : (m : MasterState) (uuids : List (List ℕ)) → (subscribed m uuids).status ≡ 202 → ⊥
subscribe_status m [] e = omega arith
subscribe_status m (u ∷ us) e = omega arith

pub opens : (m : MasterState) (call : Call) (given : Option (List ℕ)) → (handled m call given).status ≡ 202 → IsOpen m call given
opens m call given e = by (m.down || not (agrees m.framework (framework_of call))) refl (is_subscribe call) refl m.stream refl e
  where
    named : (current : List ℕ) (b : Bool) → is_named current given ≡ b → (if b then carried_out m call else plain 400 m).status ≡ 202 → is_named current given ≡ true
    named current true f e = f
    named current false f e = absurd (omega arith)

    by : (b : Bool) → (m.down || not (agrees m.framework (framework_of call))) ≡ b → (c : Bool) → is_subscribe call ≡ c → (s : Option (List ℕ)) → m.stream ≡ s
        → (if b then plain 403 m else (if c then subscribed m m.ids else in_stream m call s given)).status ≡ 202 → IsOpen m call given
    by true f c g s h e = absurd (omega arith)
    by false f true g s h e = absurd (subscribe_status m m.ids e)
    by false f false g None h e = absurd (omega arith)
    by false f false g (Some current) h e = record { fine = f; other = g; current = current; stream = h; named = named current (is_named current given) refl e }

-- ---- the theorem: a call with status 202 changes nothing if it is repeated

again_out : (m : MasterState) (call : Call) (given : Option (List ℕ)) → IsOpen m call given → (handled (carried_out m call).master call given).master ≡ (carried_out m call).master
again_out m (of.Subscribe framework body) given o = absurd (cc o.other)
again_out m (of.Accept framework body) given o =
    let next : MasterState = (accepted m body.offer_ids (launched launched_by body.operations)).master in
    ap (λ (a : MasterAnswer). a.master) (carried next (of.Accept framework body) given (record { fine = o.fine; other = o.other; current = o.current; stream = o.stream; named = o.named }))
    ∙ accepted_twice m body.offer_ids (launched launched_by body.operations)
again_out m (of.Decline framework body) given o =
    let next : MasterState = (declined m body.offer_ids).master in
    ap (λ (a : MasterAnswer). a.master) (carried next (of.Decline framework body) given (record { fine = o.fine; other = o.other; current = o.current; stream = o.stream; named = o.named }))
    ∙ declined_twice m body.offer_ids
again_out m (of.Revive framework) given o = ap (λ (a : MasterAnswer). a.master) (carried m (of.Revive framework) given o)
again_out m (of.Kill framework body) given o = ap (λ (a : MasterAnswer). a.master) (carried m (of.Kill framework body) given o)
again_out m (of.Acknowledge framework body) given o =
    let next : MasterState = acknowledged m (key_in body) in
    ap (λ (a : MasterAnswer). a.master) (carried next (of.Acknowledge framework body) given (record { fine = o.fine; other = o.other; current = o.current; stream = o.stream; named = o.named }))
    ∙ acknowledged_twice m (key_in body)
again_out m (of.Reconcile framework body) given o = ap (λ (a : MasterAnswer). a.master) (carried m (of.Reconcile framework body) given o)
again_out m (of.Teardown framework) given o = refl
again_out m (of.Suppress framework) given o = ap (λ (a : MasterAnswer). a.master) (carried m (of.Suppress framework) given o)
again_out m (of.Shutdown framework body) given o = ap (λ (a : MasterAnswer). a.master) (carried m (of.Shutdown framework body) given o)
again_out m (of.Message framework body) given o = ap (λ (a : MasterAnswer). a.master) (carried m (of.Message framework body) given o)

pub again : (m : MasterState) (call : Call) (given : Option (List ℕ)) → (handled m call given).status ≡ 202 → (handled (handled m call given).master call given).master ≡ (handled m call given).master
again m call given e =
    let o : IsOpen m call given = opens m call given e in
    let c : handled m call given ≡ carried_out m call = carried m call given o in
    ap (λ (a : MasterAnswer). (handled a.master call given).master) c ∙ again_out m call given o ∙ sym (ap (λ (a : MasterAnswer). a.master) c)
