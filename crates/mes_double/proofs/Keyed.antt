-- On every course an acknowledged update was received, and stays acknowledged.
use Rattle.std.proofs.Common.{◌≡◌, ℕ, ◌+◌, Bool, true, false, not, if◌then◌else◌, inl, inr, filter, slice_get, List, [], ◌∷◌, ◌++◌, Option, Some, None, refl, sym, ap, subst, ◌∙◌, arith}
use Rattle.std.specs.Option.{option_to_list}
use Rattle.std.proofs.lemmas.Bool.{or_cases, or_left, or_right}
use Rattle.mes_model.specs.Id.{Id}
use Rattle.mes_model.specs.OwedKey.{OwedKey}
use Rattle.mes_model.specs.TaskStatus.{TaskStatus}
use Rattle.mes_model.specs.Owed.{owed_key_of}
use Rattle.mes_msg.specs.Event.{Event}
use Rattle.mes_msg.specs.Call.{Call}
use Rattle.mes_msg.specs.Call.TheVariants as of
use Rattle.mes_msg.specs.declared.entry.Entry.TheVariants.{Heard, Said, Broken}
use Rattle.mes_session_state.specs.Held.{same_key, is_owed, with_key}
use Rattle.mes_session_state.specs.Calls.{acknowledged_by}
use Rattle.mes_session_state.specs.Refusals.{Answers}
use Rattle.mes_session.specs.History.{owed_by, acknowledges}
use Rattle.mes_session.proofs.HistoryLemmas.{key-exact}
use Rattle.mes_double_master.specs.Masters.{MasterState, MasterAnswer, plain, subscribed, update_event, asked_for, has_update, acknowledged, key_in, carried_out}
use Rattle.mes_double.specs.declared.moves.Move.{Move}
use Rattle.mes_double.specs.declared.sent.Sent.{Sent}
use Rattle.mes_double.specs.Worlds.{is_done}
use Rattle.mes_double.specs.Courses.{Arrival, Course, begun, Leads, IsCourse}
use Rattle.mes_double.specs.Promises.{AckedWereHeard}
use Rattle.mes_double.proofs.ListLemmas.{apart, or-none, get-front, front-or-last}
use Rattle.mes_double.proofs.KeyLemmas.{owed-fewer, owed-put, owed-fold, owed-still, owed-last, tells_key, reports-append, reports-more, reports-still, reports-last, told-none, owing-more, owing-last, owing-there, get-filter}
use Rattle.mes_double.proofs.WishLemmas.{owed-key}
use Rattle.mes_double.proofs.TurnLemmas.{Turn, turn, to_wished, to_heard, arrival_of, to_answered}
use Rattle.mes_double.proofs.TurnLemmas.Turn.{skips, offers, rescinds, reports, tells_owing, resends, hears, wishes, refuses, opens, carries, resubscribes}

pub record Keyed (c : Course) : Type 0 where
  -- each key that is acknowledged, unacknowledged in the session, or in a sent call was received
  pub acked : (k : OwedKey) → is_owed k c.world.master.acked ≡ true → tells_key k c.heard ≡ true
  pub owed : (k : OwedKey) → is_owed k c.world.session.owed ≡ true → tells_key k c.heard ≡ true
  pub sent : (i : ℕ) (p : Sent) (k : OwedKey) → slice_get c.world.sent i ≡ Some p → acknowledged_by p.call ≡ Some k → tells_key k c.heard ≡ true
  -- each key that was received or is queued is that of an update that the master sent
  pub heard : (k : OwedKey) → tells_key k c.heard ≡ true → has_update c.world.master.owing k ≡ true
  pub waits : (k : OwedKey) → tells_key k c.world.waiting ≡ true → has_update c.world.master.owing k ≡ true
  pub owing : (i : ℕ) (x : OwedKey × TaskStatus) → slice_get c.world.master.owing i ≡ Some x → owed_key_of x.1 ≡ Some x.0
  -- each arrival has the call that was sent at its index; an ACKNOWLEDGE with status 202 is
  -- recorded
  pub place : (i : ℕ) (a : Arrival) → slice_get c.arrivals i ≡ Some a → slice_get c.world.sent a.index ≡ Some a.sent
  pub done : (i : ℕ) (a : Arrival) (k : OwedKey) → slice_get c.arrivals i ≡ Some a → a.status ≡ 202 → acknowledged_by a.sent.call ≡ Some k → is_owed k c.world.master.acked ≡ true

following : (c : Course) → Keyed c → (e : Event) (owing : List (OwedKey × TaskStatus)) → ((k : OwedKey) → has_update c.world.master.owing k ≡ true → has_update owing k ≡ true)
    → ((k : OwedKey) → is_owed k (owed_by (Heard e)) ≡ true → has_update owing k ≡ true) → (k : OwedKey) → tells_key k (c.world.waiting ++ e ∷ []) ≡ true → has_update owing k ≡ true
following c j e owing more known k t = elim (reports-more k c.world.waiting e t) [
  | inl f ↦ more k (j.waits k f)
  | inr f ↦ known k f
]

told-key : (status : TaskStatus) (o : Option OwedKey) → owed_key_of status ≡ o → (k : OwedKey) → is_owed k (owed_by (Heard (update_event status))) ≡ true → is_owed k (option_to_list o) ≡ true
told-key status o e k t = ap (λ (p : Option OwedKey). is_owed k (option_to_list p)) (sym e) ∙ t

module _ (c : Course) (j : Keyed c) where
  -- ---- `Keyed` after a call is sent

  wish-keyed : (call : Call) (stream : List ℕ) → Answers c.world.session call None → Keyed (to_wished c call stream)
  wish-keyed call stream said = record {
    acked = j.acked;
    owed = λ k e. j.owed k (owed-fewer (λ (l : OwedKey). not (acknowledges l (Said call))) k c.world.session.owed e);
    sent = λ i p k there e. elim (front-or-last c.world.sent (record { call = call; stream = stream }) i p there) [
      | inl f ↦ j.sent i p k f e
      | inr f ↦ j.owed k (owed-key c.world.session call said k (ap (λ (q : Sent). acknowledged_by q.call) f.1 ∙ e))
    ];
    heard = j.heard;
    waits = j.waits;
    owing = j.owing;
    place = λ i a there. get-front c.world.sent (record { call = call; stream = stream } ∷ []) a.index a.sent (j.place i a there);
    done = j.done;
  }

  -- ---- `Keyed` after an event is received

  hear-keyed : (e : Event) (events : List Event) → c.world.waiting ≡ e ∷ events → Keyed (to_heard c e events)
  hear-keyed e events w =
      let waits_all : (k : OwedKey) → tells_key k (e ∷ events) ≡ true → has_update c.world.master.owing k ≡ true =
      λ k t. j.waits k (ap (tells_key k) w ∙ t) in
      record {
        acked = λ k t. reports-still k c.heard (e ∷ []) (j.acked k t);
        owed = λ k t. elim (owed-fold k (filter (λ (l : OwedKey). not (acknowledges l (Heard e))) c.world.session.owed) (owed_by (Heard e)) t) [
          | inl f ↦ reports-still k c.heard (e ∷ []) (j.owed k (owed-fewer (λ (l : OwedKey). not (acknowledges l (Heard e))) k c.world.session.owed f))
          | inr f ↦ reports-last k c.heard e f
        ];
        sent = λ i p k there t. reports-still k c.heard (e ∷ []) (j.sent i p k there t);
        heard = λ k t. elim (reports-more k c.heard e t) [
          | inl f ↦ j.heard k f
          | inr f ↦ waits_all k (or_left (is_owed k (owed_by (Heard e))) (tells_key k events) f)
        ];
        waits = λ k t. waits_all k (or_right (is_owed k (owed_by (Heard e))) (tells_key k events) t);
        owing = j.owing;
        place = j.place;
        done = j.done;
      }

  -- ---- `Keyed` after the master receives a call

  module _ (index : ℕ) (p : Sent) (there : slice_get c.world.sent index ≡ Some p) where
    place-more : (a : Arrival) → a.index ≡ index → a.sent ≡ p → (i : ℕ) (b : Arrival) → slice_get (c.arrivals ++ a ∷ []) i ≡ Some b → slice_get c.world.sent b.index ≡ Some b.sent
    place-more a at is i b e = elim (front-or-last c.arrivals a i b e) [
      | inl f ↦ j.place i b f
      | inr f ↦ (let g : a ≡ b = f.1 in subst (λ (x : Arrival). slice_get c.world.sent x.index ≡ Some x.sent) g (ap (slice_get c.world.sent) at ∙ there ∙ ap (λ (q : Sent). Some q) (sym is)))
    ]

    done-more : (a : Arrival) (acked : List OwedKey) → ((k : OwedKey) → is_owed k c.world.master.acked ≡ true → is_owed k acked ≡ true)
        → ((k : OwedKey) → a.status ≡ 202 → acknowledged_by a.sent.call ≡ Some k → is_owed k acked ≡ true)
        → (i : ℕ) (b : Arrival) (k : OwedKey) → slice_get (c.arrivals ++ a ∷ []) i ≡ Some b → b.status ≡ 202 → acknowledged_by b.sent.call ≡ Some k → is_owed k acked ≡ true
    done-more a acked more here i b k e status names_key = elim (front-or-last c.arrivals a i b e) [
      | inl f ↦ more k (j.done i b k f status names_key)
      | inr f ↦ here k (ap (λ (x : Arrival). x.status) f.1 ∙ status) (ap (λ (x : Arrival). acknowledged_by x.sent.call) f.1 ∙ names_key)
    ]

    idle-keyed : (a : MasterAnswer) → a.master.owing ≡ c.world.master.owing → a.master.acked ≡ c.world.master.acked → ((k : OwedKey) → tells_key k a.events ≡ false)
        → (a.status ≡ 202 → acknowledged_by p.call ≡ None) → Keyed (to_answered c index p a)
    idle-keyed a owing acked none plain_call = record {
      acked = λ k e. j.acked k (ap (is_owed k) (sym acked) ∙ e);
      owed = j.owed;
      sent = j.sent;
      heard = λ k e. ap (λ (l : List (OwedKey × TaskStatus)). has_update l k) owing ∙ j.heard k e;
      waits = λ k e. elim (or_cases (tells_key k c.world.waiting) (tells_key k a.events) (sym (reports-append k c.world.waiting a.events) ∙ e)) [
        | inl f ↦ ap (λ (l : List (OwedKey × TaskStatus)). has_update l k) owing ∙ j.waits k f
        | inr f ↦ apart _ f (none k)
      ];
      owing = λ i x e. j.owing i x (ap (λ (l : List (OwedKey × TaskStatus)). slice_get l i) (sym owing) ∙ e);
      place = place-more (arrival_of index p a) refl refl;
      done = done-more (arrival_of index p a) a.master.acked (λ k e. ap (is_owed k) acked ∙ e)
          (λ k status names_key. absurd (let f : None ≡ Some k = sym (plain_call status) ∙ names_key in cc));
    }

    refuse-keyed : (status : ℕ) → is_done status ≡ false
        → Keyed (record c { world = record c.world { skipped = c.world.skipped + 1 }; arrivals = c.arrivals ++ arrival_of index p (plain status c.world.master) ∷ [] })
    refuse-keyed status none = record {
      acked = j.acked;
      owed = j.owed;
      sent = j.sent;
      heard = j.heard;
      waits = j.waits;
      owing = j.owing;
      place = place-more (arrival_of index p (plain status c.world.master)) refl refl;
      done = done-more (arrival_of index p (plain status c.world.master)) c.world.master.acked (λ k e. e) (λ k s names_key. apart (is_done status) (ap is_done s) none);
    }

    acknowledge-keyed : (key : OwedKey) → acknowledged_by p.call ≡ Some key → Keyed (to_answered c index p (plain 202 (acknowledged c.world.master key)))
    acknowledge-keyed key names_key =
        let heard_key : tells_key key c.heard ≡ true = j.sent index p key there names_key in
        let known : has_update c.world.master.owing key ≡ true = j.heard key heard_key in
        let acked_are : (acknowledged c.world.master key).acked ≡ with_key c.world.master.acked key = ap (λ (b : Bool). if b then with_key c.world.master.acked key else c.world.master.acked) known in
        record {
          acked = λ k e. elim (owed-put k c.world.master.acked key (ap (is_owed k) (sym acked_are) ∙ e)) [
            | inl f ↦ j.acked k f
            | inr f ↦ subst (λ (x : OwedKey). tells_key x c.heard ≡ true) (sym (key-exact k key f)) heard_key
          ];
          owed = j.owed;
          sent = j.sent;
          heard = j.heard;
          waits = λ k e. elim (or_cases (tells_key k c.world.waiting) false (sym (reports-append k c.world.waiting []) ∙ e)) [
            | inl f ↦ j.waits k f
            | inr f ↦ absurd (cc)
          ];
          owing = j.owing;
          place = place-more (arrival_of index p (plain 202 (acknowledged c.world.master key))) refl refl;
          done = done-more (arrival_of index p (plain 202 (acknowledged c.world.master key))) (acknowledged c.world.master key).acked
              (λ k e. ap (is_owed k) acked_are ∙ owed-still k c.world.master.acked key e)
              (λ k status is. (let f : Some key ≡ Some k = sym names_key ∙ is in
              let same : key ≡ k = cc in
              ap (is_owed k) acked_are ∙ subst (λ (x : OwedKey). is_owed x (with_key c.world.master.acked key) ≡ true) same (owed-last c.world.master.acked key)));
        }

carry-keyed : (c : Course) (j : Keyed c) (index : ℕ) (p : Sent) (there : slice_get c.world.sent index ≡ Some p) → Keyed (to_answered c index p (carried_out c.world.master p.call))
carry-keyed c j index p there = by p.call p.stream there
  where
    by : (call : Call) (stream : List ℕ) → (slice_get c.world.sent index ≡ Some (record { call = call; stream = stream })) → Keyed (to_answered c index (record { call = call; stream = stream }) (carried_out c.world.master call))
    by (of.Accept f body) stream at = idle-keyed c j index _ at _ refl refl (λ k. refl) (λ e. refl)
    by (of.Decline f body) stream at = idle-keyed c j index _ at _ refl refl (λ k. refl) (λ e. refl)
    by (of.Acknowledge f body) stream at = acknowledge-keyed c j index _ at (key_in body) refl
    by (of.Reconcile f body) stream at = idle-keyed c j index _ at _ refl refl (λ k. told-none k (asked_for c.world.master.latest body.tasks)) (λ e. refl)
    by (of.Teardown f) stream at = idle-keyed c j index _ at _ refl refl (λ k. refl) (λ e. refl)
    by (of.Subscribe f body) stream at = idle-keyed c j index _ at _ refl refl (λ k. refl) (λ e. refl)
    by (of.Revive f) stream at = idle-keyed c j index _ at _ refl refl (λ k. refl) (λ e. refl)
    by (of.Kill f body) stream at = idle-keyed c j index _ at _ refl refl (λ k. refl) (λ e. refl)
    by (of.Suppress f) stream at = idle-keyed c j index _ at _ refl refl (λ k. refl) (λ e. refl)
    by (of.Shutdown f body) stream at = idle-keyed c j index _ at _ refl refl (λ k. refl) (λ e. refl)
    by (of.Message f body) stream at = idle-keyed c j index _ at _ refl refl (λ k. refl) (λ e. refl)

module _ (c : Course) (j : Keyed c) where
  send-keyed : (offered : List Id) (m : MasterState) (e : Event) → m.owing ≡ c.world.master.owing → m.acked ≡ c.world.master.acked
      → ((k : OwedKey) → is_owed k (owed_by (Heard e)) ≡ true → has_update c.world.master.owing k ≡ true)
      → Keyed (record c { world = record c.world { master = m; waiting = c.world.waiting ++ e ∷ [] } })
  send-keyed offered m e owing acked known = record {
    acked = λ k t. j.acked k (ap (is_owed k) (sym acked) ∙ t);
    owed = j.owed;
    sent = j.sent;
    heard = λ k t. ap (λ (l : List (OwedKey × TaskStatus)). has_update l k) owing ∙ j.heard k t;
    waits = λ k t. ap (λ (l : List (OwedKey × TaskStatus)). has_update l k) owing ∙ following c j e c.world.master.owing (λ l f. f) known k t;
    owing = λ i x t. j.owing i x (ap (λ (l : List (OwedKey × TaskStatus)). slice_get l i) (sym owing) ∙ t);
    place = j.place;
    done = λ i a k there status names_key. ap (is_owed k) acked ∙ j.done i a k there status names_key;
  }

  owing-keyed : (m : MasterState) (status : TaskStatus) (key : OwedKey) → owed_key_of status ≡ Some key → m.owing ≡ c.world.master.owing ++ (key, status) ∷ [] → m.acked ≡ c.world.master.acked
      → Keyed (record c { world = record c.world { master = m; waiting = c.world.waiting ++ update_event status ∷ [] } })
  owing-keyed m status key some owing acked =
      let more : (k : OwedKey) → has_update c.world.master.owing k ≡ true → has_update m.owing k ≡ true =
      λ k e. ap (λ (l : List (OwedKey × TaskStatus)). has_update l k) owing ∙ owing-more c.world.master.owing key status k e in
      record {
        acked = λ k t. j.acked k (ap (is_owed k) (sym acked) ∙ t);
        owed = j.owed;
        sent = j.sent;
        heard = λ k t. more k (j.heard k t);
        waits = following c j (update_event status) m.owing more
            (λ k t. ap (λ (l : List (OwedKey × TaskStatus)). has_update l k) owing
            ∙ owing-last c.world.master.owing key status k (sym (or-none (same_key k key)) ∙ told-key status (Some key) some k t));
        owing = λ i x t. elim (front-or-last c.world.master.owing (key, status) i x (ap (λ (l : List (OwedKey × TaskStatus)). slice_get l i) (sym owing) ∙ t)) [
          | inl f ↦ j.owing i x f
          | inr f ↦ (let g : (key, status) ≡ x = f.1 in subst (λ (y : OwedKey × TaskStatus). owed_key_of y.1 ≡ Some y.0) g some)
        ];
        place = j.place;
        done = λ i a k there status names_key. ap (is_owed k) acked ∙ j.done i a k there status names_key;
      }

keyed-turn : (c d : Course) → Turn c d → Keyed c → Keyed d
keyed-turn c d (skips e) j =
    subst Keyed (sym e) (record { acked = j.acked; owed = j.owed; sent = j.sent; heard = j.heard; waits = j.waits; owing = j.owing; place = j.place; done = j.done })
keyed-turn c d (offers list none e) j = subst Keyed (sym e) (send-keyed c j [] _ _ refl refl (λ k t. absurd (cc)))
keyed-turn c d (rescinds id e) j = subst Keyed (sym e) (send-keyed c j [] _ _ refl refl (λ k t. absurd (cc)))
keyed-turn c d (reports status none e) j = subst Keyed (sym e) (send-keyed c j [] _ _ refl refl (λ k t. absurd (let f : false ≡ true = told-key status None none k t in cc)))
keyed-turn c d (tells_owing status key some e) j = subst Keyed (sym e) (owing-keyed c j _ status key some refl refl)
keyed-turn c d (resends index x there e) j =
    subst Keyed (sym e)
    (send-keyed c j [] _ _ refl refl
    (λ k t. (let at : (i : ℕ) × (slice_get c.world.master.owing i ≡ Some x) = get-filter (λ (y : OwedKey × TaskStatus). not (is_owed y.0 c.world.master.acked)) c.world.master.owing index x there in
    owing-there c.world.master.owing at.0 x k at.1 (sym (or-none (same_key k x.0)) ∙ told-key x.1 (Some x.0) (j.owing at.0 x at.1) k t))))
keyed-turn c d (hears x events w e) j = subst Keyed (sym e) (hear-keyed c j x events w)
keyed-turn c d (wishes call stream current said e) j = subst Keyed (sym e) (wish-keyed c j call stream said)
keyed-turn c d (refuses index p status there none is e) j = subst Keyed (sym e) (refuse-keyed c j index p there status none)
keyed-turn c d (opens index p uuid uuids there call up e) j =
    subst Keyed (sym e) (idle-keyed c j index p there (subscribed c.world.master (uuid ∷ uuids)) refl refl (λ k. refl) (λ f. absurd (omega (arith, f))))
keyed-turn c d (carries index p there o e) j = subst Keyed (sym e) (carry-keyed c j index p there)
keyed-turn c d (resubscribes uuid uuids up e) j =
    subst Keyed (sym e)
    (record {
      acked = j.acked;
      owed = λ k t. j.owed k (owed-fewer (λ (l : OwedKey). not (acknowledges l Broken)) k c.world.session.owed t);
      sent = j.sent;
      heard = j.heard;
      waits = λ k t. absurd (cc);
      owing = j.owing;
      place = j.place;
      done = j.done;
    })

keyed-leads : (c d : Course) (list : List Move) → Leads c list d → Keyed c → Keyed d
keyed-leads c d [] e j = subst Keyed (sym e) j
keyed-leads c d (move ∷ list) l j = keyed-leads l.0 d list l.2 (keyed-turn c l.0 (turn c l.0 move l.1) j)

pub keyed : (framework : Id) (ids : List (List ℕ)) (list : List Move) (c : Course) → IsCourse framework ids list c → Keyed c
keyed framework ids list c l =
    keyed-leads (begun framework ids) c list l
    (record {
      acked = λ k e. absurd (cc);
      owed = λ k e. absurd (cc);
      sent = λ i p k there e. absurd (cc);
      heard = λ k e. absurd (cc);
      waits = λ k e. absurd (cc);
      owing = λ i x e. absurd (cc);
      place = λ i a e. absurd (cc);
      done = λ i a k e. absurd (cc);
    })

pub acked-heard : (framework : Id) (ids : List (List ℕ)) (list : List Move) (c : Course) → IsCourse framework ids list c → AckedWereHeard c
acked-heard framework ids list c l = (keyed framework ids list c l).acked
