-- `Turn`: the course after one move, in a dozen cases.
use Rattle.std.proofs.Common.{◌≡◌, ℕ, Bool, true, false, if◌then◌else◌, slice_get, take, List, [], ◌∷◌, ◌++◌, Option, Some, None, is_some, Ok, Err, refl, ap, ◌∙◌}
use Rattle.std.proofs.lemmas.List.{append-nil}
use Rattle.mes_model.specs.Id.{Id}
use Rattle.mes_model.specs.Offer.{Offer}
use Rattle.mes_model.specs.OwedKey.{OwedKey}
use Rattle.mes_model.specs.TaskStatus.{TaskStatus}
use Rattle.mes_model.specs.Owed.{owed_key_of}
use Rattle.mes_msg.specs.Event.{Event}
use Rattle.mes_msg.specs.Event.TheVariants as event
use Rattle.mes_msg.specs.Call.{Call}
use Rattle.mes_msg.specs.declared.entry.Entry.TheVariants.{Heard, Said, Broken}
use Rattle.mes_session_state.specs.declared.refusal.Refusal.{Refusal}
use Rattle.mes_session_state.specs.Held.{without_offer}
use Rattle.mes_session_state.specs.Refusals.{Answers}
use Rattle.mes_session.specs.History.{after}
use Rattle.mes_session.specs.Made.{subscribe_call}
use Rattle.mes_double_master.specs.declared.refusal.MasterRefusal.{MasterRefusal}
use Rattle.mes_double_master.specs.declared.refusal.MasterRefusal.TheVariants.{NoStream, OfferTwice, NoSuchOffer, UpdateTwice, NoSuchUpdate}
use Rattle.mes_double_master.specs.Masters.{MasterState, MasterAnswer, plain, subscribed, update_event, is_there, has_update, carried_out, is_subscribe}
use Rattle.mes_double_master.specs.Sending.{Sends, on_stream, offer_ids, is_duplicate, made, offers_sent, rescind_sent, reported, reported_unacknowledged, updated, update_sent, waiting, resent, resend_sent}
use Rattle.mes_double_master.proofs.AgainLemmas.{IsOpen}
use Rattle.mes_double.specs.declared.moves.Move.{Move}
use Rattle.mes_double.specs.declared.moves.Move.TheVariants as moves
use Rattle.mes_double.specs.declared.sent.Sent.{Sent}
use Rattle.mes_double.specs.Worlds.{WorldState, skip, sending, hearing, wishing, Wishes, is_done, answer_to, answering, arriving, world_info, subscribe_answer, resubscribing}
use Rattle.mes_double.specs.Courses.{Arrival, Course, arrival, Follows}
use Rattle.mes_double.proofs.ReachLemmas.{out-status, Reached, reach}
use Rattle.mes_double.proofs.ReachLemmas.Reached.{turned, opened, did}

-- ---- the course after each kind of move

abbrev pub to_world : Course → WorldState → Course
to_world c w = record c { world = w }

abbrev pub to_sent : Course → MasterState → Event → Course
to_sent c m e = to_world c (record c.world { master = m; waiting = c.world.waiting ++ e ∷ [] })

abbrev pub to_heard : Course → Event → List Event → Course
to_heard c e events = record c { world = record c.world { session = after c.world.session (Heard e); waiting = events }; heard = c.heard ++ e ∷ [] }

abbrev pub to_wished : Course → Call → List ℕ → Course
to_wished c call stream = to_world c (record c.world { session = after c.world.session (Said call); sent = c.world.sent ++ record { call = call; stream = stream } ∷ [] })

abbrev pub arrival_of : ℕ → Sent → MasterAnswer → Arrival
arrival_of index p a = record { index = index; sent = p; status = a.status; took = a.took; ran = a.ran }

abbrev pub to_refused : Course → ℕ → Sent → ℕ → Course
to_refused c index p status = record c { world = skip c.world; arrivals = c.arrivals ++ arrival_of index p (plain status c.world.master) ∷ [] }

abbrev pub to_answered : Course → ℕ → Sent → MasterAnswer → Course
to_answered c index p a = record c { world = record c.world { master = a.master; waiting = c.world.waiting ++ a.events }; arrivals = c.arrivals ++ arrival_of index p a ∷ [] }

abbrev pub to_resubscribed : Course → MasterAnswer → Course
to_resubscribed c a = to_world c (record c.world { master = a.master; session = after c.world.session Broken; waiting = a.events })

pub data Turn (c d : Course) : Type 0 where
  skips : d ≡ to_world c (skip c.world) → Turn c d
  offers : (list : List Offer) → is_duplicate c.world.master.offered (offer_ids list) ≡ false → d ≡ to_sent c (made c.world.master list).1 (event.Offers list) → Turn c d
  rescinds : (id : Id) → d ≡ to_sent c (record c.world.master { outstanding = without_offer id.value c.world.master.outstanding }) (event.Rescind (record { offer_id = id })) → Turn c d
  reports : (status : TaskStatus) → owed_key_of status ≡ None → d ≡ to_sent c (reported c.world.master status) (update_event status) → Turn c d
  tells_owing : (status : TaskStatus) (key : OwedKey) → owed_key_of status ≡ Some key → d ≡ to_sent c (reported_unacknowledged c.world.master key status) (update_event status) → Turn c d
  resends : (index : ℕ) (e : OwedKey × TaskStatus) → slice_get (waiting c.world.master.owing c.world.master.acked) index ≡ Some e → d ≡ to_sent c c.world.master (update_event e.1) → Turn c d
  hears : (e : Event) (events : List Event) → c.world.waiting ≡ e ∷ events → d ≡ to_heard c e events → Turn c d
  wishes : (call : Call) (stream : List ℕ) → c.world.master.stream ≡ Some stream → Answers c.world.session call None → d ≡ to_wished c call stream → Turn c d
  refuses : (index : ℕ) (p : Sent) (status : ℕ) → slice_get c.world.sent index ≡ Some p → is_done status ≡ false → answer_to c.world p ≡ plain status c.world.master → d ≡ to_refused c index p status → Turn c d
  opens : (index : ℕ) (p : Sent) (uuid : List ℕ) (uuids : List (List ℕ)) → slice_get c.world.sent index ≡ Some p → is_subscribe p.call ≡ true → c.world.master.down ≡ false
      → d ≡ to_answered c index p (subscribed c.world.master (uuid ∷ uuids)) → Turn c d
  carries : (index : ℕ) (p : Sent) → slice_get c.world.sent index ≡ Some p → IsOpen c.world.master p.call (Some p.stream)
      → d ≡ to_answered c index p (carried_out c.world.master p.call) → Turn c d
  resubscribes : (uuid : List ℕ) (uuids : List (List ℕ)) → c.world.master.down ≡ false → d ≡ to_resubscribed c (subscribed c.world.master (uuid ∷ uuids)) → Turn c d

-- ---- each move is one of the cases

module _ (c d : Course) where
  stays : (w : WorldState) → d.world ≡ w → d.heard ≡ c.heard ++ [] → d.arrivals ≡ c.arrivals ++ [] → d ≡ to_world c w
  stays w e h a = λ i. record { world = e i; heard = (h ∙ append-nil c.heard) i; arrivals = (a ∙ append-nil c.arrivals) i }

  module _ (h : d.heard ≡ c.heard ++ []) (a : d.arrivals ≡ c.arrivals ++ []) where
    refused-turn : (sends : Sends) (why : MasterRefusal) → d.world ≡ sending c.world sends → sends ≡ Err why → Turn c d
    refused-turn sends why e is = skips (stays (skip c.world) (e ∙ ap (sending c.world) is) h a)

    sent-turn : (sends : Sends) (e : Event) (m : MasterState) → d.world ≡ sending c.world sends → sends ≡ Ok (e, m) → d ≡ to_sent c m e
    sent-turn sends e m at is = stays (record c.world { master = m; waiting = c.world.waiting ++ e ∷ [] }) (at ∙ ap (sending c.world) is) h a

    on-stream : (inner : Sends) → d.world ≡ sending c.world (on_stream c.world.master inner) → (d.world ≡ sending c.world inner → Turn c d) → Turn c d
    on-stream inner e rest = by (is_some c.world.master.stream) refl
      where
        by : (b : Bool) → is_some c.world.master.stream ≡ b → Turn c d
        by true f = rest (e ∙ ap (λ (b : Bool). sending c.world (if b then inner else Err NoStream)) f)
        by false f = refused-turn (on_stream c.world.master inner) NoStream e (ap (λ (b : Bool). if b then inner else Err NoStream) f)

    offers-turn : (list : List Offer) → d.world ≡ sending c.world (offers_sent c.world.master list) → Turn c d
    offers-turn list e = on-stream _ e (λ f. by f (is_duplicate c.world.master.offered (offer_ids list)) refl)
      where
        inner : Sends
        inner = if is_duplicate c.world.master.offered (offer_ids list) then Err OfferTwice else Ok (made c.world.master list)

        by : d.world ≡ sending c.world (if is_duplicate c.world.master.offered (offer_ids list) then Err OfferTwice else Ok (made c.world.master list))
            → (b : Bool) → is_duplicate c.world.master.offered (offer_ids list) ≡ b → Turn c d
        by f true g = refused-turn _ OfferTwice f (ap (λ (b : Bool). if b then Err OfferTwice else Ok (made c.world.master list)) g)
        by f false g = offers list g (sent-turn _ _ _ f (ap (λ (b : Bool). if b then Err OfferTwice else Ok (made c.world.master list)) g))

    rescind-turn : (id : Id) → d.world ≡ sending c.world (rescind_sent c.world.master id.value) → Turn c d
    rescind-turn id e = on-stream _ e (λ f. by f (is_there c.world.master.outstanding id) refl)
      where
        choice : Bool → Sends
        choice b =
            if b
            then Ok (event.Rescind (record { offer_id = id }), record c.world.master { outstanding = without_offer id.value c.world.master.outstanding })
            else Err NoSuchOffer

        by : d.world ≡ sending c.world (if is_there c.world.master.outstanding id
            then Ok (event.Rescind (record { offer_id = id }), record c.world.master { outstanding = without_offer id.value c.world.master.outstanding })
            else Err NoSuchOffer) → (b : Bool) → is_there c.world.master.outstanding id ≡ b → Turn c d
        by f true g = rescinds id (sent-turn _ _ _ f (ap (λ (b : Bool). if b
            then Ok (event.Rescind (record { offer_id = id }), record c.world.master { outstanding = without_offer id.value c.world.master.outstanding })
            else Err NoSuchOffer) g))
        by f false g = refused-turn _ NoSuchOffer f (ap (λ (b : Bool). if b
            then Ok (event.Rescind (record { offer_id = id }), record c.world.master { outstanding = without_offer id.value c.world.master.outstanding })
            else Err NoSuchOffer) g)

    update-turn : (status : TaskStatus) → d.world ≡ sending c.world (update_sent c.world.master status) → Turn c d
    update-turn status e = on-stream _ e (λ f. by f (owed_key_of status) refl)
      where
        owing : (key : OwedKey) → d.world ≡ sending c.world (updated c.world.master status (Some key)) → owed_key_of status ≡ Some key → (b : Bool) → has_update c.world.master.owing key ≡ b → Turn c d
        owing key f k true g = refused-turn _ UpdateTwice f (ap (λ (b : Bool). if b then Err UpdateTwice else Ok (update_event status, reported_unacknowledged c.world.master key status)) g)
        owing key f k false g =
            tells_owing status key k
            (sent-turn _ _ _ f (ap (λ (b : Bool). if b then Err UpdateTwice else Ok (update_event status, reported_unacknowledged c.world.master key status)) g))

        by : d.world ≡ sending c.world (updated c.world.master status (owed_key_of status)) → (o : Option OwedKey) → owed_key_of status ≡ o → Turn c d
        by f None k = reports status k (sent-turn _ _ _ f (ap (updated c.world.master status) k))
        by f (Some key) k = owing key (f ∙ ap (λ (o : Option OwedKey). sending c.world (updated c.world.master status o)) k) k (has_update c.world.master.owing key) refl

    resend-turn : (index : ℕ) → d.world ≡ sending c.world (resend_sent c.world.master index) → Turn c d
    resend-turn index e = on-stream _ e (λ f. by f (slice_get (waiting c.world.master.owing c.world.master.acked) index) refl)
      where
        by : d.world ≡ sending c.world (resent c.world.master (slice_get (waiting c.world.master.owing c.world.master.acked) index))
            → (o : Option (OwedKey × TaskStatus)) → slice_get (waiting c.world.master.owing c.world.master.acked) index ≡ o → Turn c d
        by f None g = refused-turn _ NoSuchUpdate f (ap (resent c.world.master) g)
        by f (Some x) g = resends index x g (sent-turn _ _ _ f (ap (resent c.world.master) g))

    wish-turn : (call : Call) → Wishes c.world call c.world.master.stream d.world → Turn c d
    wish-turn call e = by c.world.master.stream refl e
      where
        by : (s : Option (List ℕ)) → c.world.master.stream ≡ s → Wishes c.world call s d.world → Turn c d
        by None f e = skips (stays _ e h a)
        by (Some stream) f e = answered e.0 e.1 e.2
          where
            answered : (o : Option Refusal) → Answers c.world.session call o → d.world ≡ wishing c.world call stream o → Turn c d
            answered None g k = wishes call stream f g (stays _ k h a)
            answered (Some why) g k = skips (stays _ k h a)

    subscribe-turn : d.world ≡ resubscribing c.world (subscribe_answer c.world) → Turn c d
    subscribe-turn e = by (reach c.world.master (subscribe_call c.world.session.framework world_info) None)
      where
        by : Reached c.world.master (subscribe_call c.world.session.framework world_info) None → Turn c d
        by (turned status none is) =
            skips (stays _ (e ∙ ap (resubscribing c.world) is ∙ ap (λ (b : Bool). if b then record c.world { session = after c.world.session Broken; waiting = [] } else skip c.world) none) h a)
        by (opened uuid uuids call up is) = resubscribes uuid uuids up (stays _ (e ∙ ap (resubscribing c.world) is) h a)
        by (did open_call is) = absurd (let f : true ≡ false = open_call.other in cc)

  hear-turn : d.world ≡ hearing c.world c.world.waiting → d.heard ≡ c.heard ++ take 1 c.world.waiting → d.arrivals ≡ c.arrivals ++ [] → Turn c d
  hear-turn e h a = by c.world.waiting refl
    where
      by : (l : List Event) → c.world.waiting ≡ l → Turn c d
      by [] f = skips (stays _ (e ∙ ap (hearing c.world) f) (h ∙ ap (λ (l : List Event). c.heard ++ take 1 l) f) a)
      by (x ∷ xs) f =
          hears x xs f
          (λ i. record { world = (e ∙ ap (hearing c.world) f) i; heard = (h ∙ ap (λ (l : List Event). c.heard ++ take 1 l) f) i; arrivals = (a ∙ append-nil c.arrivals) i })

module _ (c d : Course) (index : ℕ) (e : d.world ≡ arriving c.world (slice_get c.world.sent index)) (h : d.heard ≡ c.heard ++ [])
    (a : d.arrivals ≡ c.arrivals ++ arrival c.world index (slice_get c.world.sent index)) where
  module _ (p : Sent) (there : slice_get c.world.sent index ≡ Some p) where
    world_is : d.world ≡ answering c.world (answer_to c.world p)
    world_is = e ∙ ap (arriving c.world) there

    whole : (answer : MasterAnswer) (w : WorldState) → answer_to c.world p ≡ answer → d.world ≡ w → (let f : Course = record { world = w; heard = c.heard; arrivals = c.arrivals ++ arrival_of index p answer ∷ [] } in d ≡ f)
    whole answer w is f =
        let arrivals_are : d.arrivals ≡ c.arrivals ++ arrival_of index p answer ∷ [] =
        a ∙ ap (λ (o : Option Sent). c.arrivals ++ arrival c.world index o) there ∙ ap (λ (x : MasterAnswer). c.arrivals ++ arrival_of index p x ∷ []) is in
        λ i. record { world = f i; heard = (h ∙ append-nil c.heard) i; arrivals = arrivals_are i }

    reached : Reached c.world.master p.call (Some p.stream) → Turn c d
    reached (turned status none is) =
        refuses index p status there none is
        (whole _ _ is (world_is ∙ ap (answering c.world) is ∙ ap (λ (b : Bool). if b then record c.world { waiting = c.world.waiting ++ [] } else skip c.world) none))
    reached (opened uuid uuids call up is) = opens index p uuid uuids there call up (whole _ _ is (world_is ∙ ap (answering c.world) is))
    reached (did open_call is) =
        carries index p there open_call
        (whole _ _ is (world_is ∙ ap (answering c.world) is
        ∙ ap (λ (n : ℕ). if is_done n then record c.world { master = (carried_out c.world.master p.call).master; waiting = c.world.waiting ++ (carried_out c.world.master p.call).events } else skip c.world) (out-status c.world.master p.call)))

  arrive-turn : Turn c d
  arrive-turn = by (slice_get c.world.sent index) refl
    where
      by : (o : Option Sent) → slice_get c.world.sent index ≡ o → Turn c d
      by None f = skips (stays c d _ (e ∙ ap (arriving c.world) f) h (a ∙ ap (λ (o : Option Sent). c.arrivals ++ arrival c.world index o) f))
      by (Some p) f = reached p f (reach c.world.master p.call (Some p.stream))

pub turn : (c d : Course) (move : Move) → Follows c move d → Turn c d
turn c d (moves.Offer list) f = offers-turn c d f.heard f.arrivals list f.world
turn c d (moves.Rescind name) f = rescind-turn c d f.heard f.arrivals (record { value = name }) f.world
turn c d (moves.Update status) f = update-turn c d f.heard f.arrivals status f.world
turn c d (moves.Resend index) f = resend-turn c d f.heard f.arrivals index f.world
turn c d moves.Hear f = hear-turn c d f.world f.heard f.arrivals
turn c d (moves.Wish call) f = wish-turn c d f.heard f.arrivals call f.world
turn c d (moves.Arrive index) f = arrive-turn c d index f.world f.heard f.arrivals
turn c d moves.Resubscribe f = subscribe-turn c d f.heard f.arrivals f.world
