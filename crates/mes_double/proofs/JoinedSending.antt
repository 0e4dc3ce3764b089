-- The invariant `Joined` holds after an event is sent or received.
use Rattle.std.proofs.Common.{◌≡◌, ℕ, ◌+◌, ◌≤◌, Bool, true, false, ◌&&◌, not, filter, slice_get, List, [], ◌∷◌, ◌++◌, Option, Some, None, refl, sym, ap, subst, ◌∙◌, arith}
use Rattle.std.specs.Option.{option_or}
use Rattle.std.specs.Str.{bytes_eq}
use Rattle.std.proofs.lemmas.Bool.{and_right}
use Rattle.mes_model.specs.Id.{Id}
use Rattle.mes_model.specs.Offer.{Offer}
use Rattle.mes_model.specs.OwedKey.{OwedKey}
use Rattle.mes_model.specs.TaskStatus.{TaskStatus}
use Rattle.mes_msg.specs.Event.{Event}
use Rattle.mes_msg.specs.Event.TheVariants as event
use Rattle.mes_msg.specs.declared.entry.Entry.TheVariants.{Heard}
use Rattle.mes_session_state.specs.Held.{Held, name_of, names, with_offers, without_offer}
use Rattle.mes_session_state.specs.Calls.{named_by}
use Rattle.mes_session.specs.History.{after, offers_of, subscribed_by, takes_offer}
use Rattle.mes_double_master.specs.Masters.{update_event}
use Rattle.mes_double_master.specs.Sending.{offer_ids, is_duplicate, made}
use Rattle.mes_double_master.proofs.RunLemmas.{times, times-append, offered-once}
use Rattle.mes_double.specs.declared.sent.Sent.{Sent}
use Rattle.mes_double.specs.Worlds.{skip}
use Rattle.mes_double.specs.Courses.{Course}
use Rattle.mes_double.specs.Promises.{is_under_way}
use Rattle.mes_double.proofs.ListLemmas.{filter-all, filter-turn, fold-more}
use Rattle.mes_double.proofs.CountLemmas.{count, count-append, count-filter, count-with, new-apart}
use Rattle.mes_double.proofs.HandLemmas.{brought, hears, put-in}
use Rattle.mes_double.proofs.WayLemmas.{way-none}
use Rattle.mes_double.proofs.TurnLemmas.{to_world, to_sent, to_heard}
use Rattle.mes_double.proofs.Joined.{Own, own-append, brought-append, Joined, under-alike}

last-heard : (s : Held) (events : List Event) (e : Event) → (hears s (events ++ e ∷ [])).hand ≡ (after (hears s events) (Heard e)).hand
last-heard s events e = ap (λ (t : Held). t.hand) (fold-more (λ (s : Held) (e : Event). after s (Heard e)) s events (e ∷ []))

module _ (c : Course) (j : Joined c) where
  pub skip-joined : Joined (to_world c (skip c.world))
  skip-joined = record { once = j.once; known = j.known; named = j.named; live = j.live; framework = j.framework; own = j.own; down = j.down; sent = j.sent; agrees = j.agrees }

  -- ---- OFFERS

  module _ (list : List Offer) (none : is_duplicate c.world.master.offered (offer_ids list) ≡ false) where
    not-named : (o : Offer) → 1 ≤ count (name_of o) list → (i : ℕ) (p : Sent) → slice_get c.world.sent i ≡ Some p → names (named_by p.call) o ≡ false
    not-named o h i p there = by (names (named_by p.call) o) refl
      where
        by : (b : Bool) → names (named_by p.call) o ≡ b → names (named_by p.call) o ≡ false
        by false e = e
        by true e = absurd (omega (arith, h, j.named i p o there e, new-apart c.world.master.offered list j.once none (name_of o)))

    new-stays : (stream : List ℕ) (o : Offer) → 1 ≤ count (name_of o) list → not (is_under_way c stream o) ≡ true
    new-stays stream o h =
        ap not (way-none (λ (p : Sent). bytes_eq stream p.stream && names (named_by p.call) o) c.arrivals 0 c.world.sent
        (λ i p there. and_right _ _ (not-named o h i p there)))

    pub offers-joined : Joined (to_sent c (made c.world.master list).1 (event.Offers list))
    offers-joined = record {
      once = offered-once c.world.master.offered (offer_ids list) none j.once;
      known = λ x. omega (arith, j.known x, times-append x c.world.master.offered (offer_ids list), brought-append x c.world.waiting (event.Offers list ∷ []), count-append x list []);
      named = λ i p o there n. omega (arith, j.named i p o there n, times-append (name_of o) c.world.master.offered (offer_ids list));
      live = λ i p o there n h. j.live i p o there n
          (omega (arith, h, count-with (name_of o) c.world.master.outstanding list, j.named i p o there n, new-apart c.world.master.offered list j.once none (name_of o)));
      framework = j.framework;
      own = own-append c.world.master.framework c.world.waiting _ j.own (λ other e. absurd (cc), tt);
      down = j.down;
      sent = j.sent;
      agrees = λ stream e.
          last-heard c.world.session c.world.waiting (event.Offers list)
          ∙ ap (λ (os : List Offer). with_offers os list) (filter-all (hears c.world.session c.world.waiting).hand)
          ∙ ap (λ (os : List Offer). with_offers os list) (j.agrees stream e)
          ∙ put-in (λ (o : Offer). not (is_under_way c stream o)) (under-alike c stream) c.world.master.outstanding list (new-stays stream);
    }

  -- ---- RESCIND

  pub rescind-joined : (id : Id) → Joined (to_sent c (record c.world.master { outstanding = without_offer id.value c.world.master.outstanding }) (event.Rescind (record { offer_id = id })))
  rescind-joined id = record {
    once = j.once;
    known = λ x. omega (arith, j.known x, brought-append x c.world.waiting (event.Rescind (record { offer_id = id }) ∷ []));
    named = j.named;
    live = λ i p o there n h. j.live i p o there n (omega (arith, h, count-filter (name_of o) (λ (y : Offer). not (bytes_eq id.value (name_of y))) c.world.master.outstanding));
    framework = j.framework;
    own = own-append c.world.master.framework c.world.waiting _ j.own (λ other e. absurd (cc), tt);
    down = j.down;
    sent = j.sent;
    agrees = λ stream e.
        last-heard c.world.session c.world.waiting (event.Rescind (record { offer_id = id }))
        ∙ ap (filter (λ (o : Offer). not (bytes_eq id.value (name_of o)))) (j.agrees stream e)
        ∙ filter-turn (λ (o : Offer). not (bytes_eq id.value (name_of o))) (λ (o : Offer). not (is_under_way c stream o)) c.world.master.outstanding;
  }

  -- ---- UPDATE

  pub update-joined : (latest : List (Id × TaskStatus)) (owing : List (OwedKey × TaskStatus)) (status : TaskStatus)
      → Joined (to_sent c (record c.world.master { latest = latest; owing = owing }) (update_event status))
  update-joined latest owing status = record {
    once = j.once;
    known = λ x. omega (arith, j.known x, brought-append x c.world.waiting (update_event status ∷ []));
    named = j.named;
    live = j.live;
    framework = j.framework;
    own = own-append c.world.master.framework c.world.waiting _ j.own (λ other e. absurd (cc), tt);
    down = j.down;
    sent = j.sent;
    agrees = λ stream e. last-heard c.world.session c.world.waiting (update_event status) ∙ filter-all (hears c.world.session c.world.waiting).hand ∙ j.agrees stream e;
  }

  -- ---- an event is received

  pub hear-joined : (e : Event) (events : List Event) → c.world.waiting ≡ e ∷ events → Joined (to_heard c e events)
  hear-joined e events w =
      let own_all : Own c.world.master.framework (e ∷ events) = subst (Own c.world.master.framework) w j.own in
      record {
        once = j.once;
        known = λ x.
            let all : count x c.world.session.hand + count x (brought (e ∷ events)) ≤ times x c.world.master.offered =
            subst (λ (l : List Event). count x c.world.session.hand + count x (brought l) ≤ times x c.world.master.offered) w (j.known x) in
            omega (
              arith,
              all,
              count-append x (offers_of (Heard e)) (brought events),
              count-with x (filter (λ (o : Offer). not (takes_offer (name_of o) (Heard e))) c.world.session.hand) (offers_of (Heard e)),
              count-filter x (λ (o : Offer). not (takes_offer (name_of o) (Heard e))) c.world.session.hand,
            );
        named = j.named;
        live = j.live;
        framework = λ known is. named-now own_all.0 (subscribed_by (Heard e)) refl known is;
        own = own_all.1;
        down = j.down;
        sent = j.sent;
        agrees = λ stream s. ap (λ (l : List Event). (hears c.world.session l).hand) (sym w) ∙ j.agrees stream s;
      }
    where
      named-now : ((other : Id) → subscribed_by (Heard e) ≡ Some other → other ≡ c.world.master.framework) → (o : Option Id) → subscribed_by (Heard e) ≡ o
          → (known : Id) → option_or (subscribed_by (Heard e)) c.world.session.framework ≡ Some known → known ≡ c.world.master.framework
      named-now own None is known e = j.framework known (sym (ap (λ (o : Option Id). option_or o c.world.session.framework) is) ∙ e)
      named-now own (Some other) is known e =
          own known (is ∙ sym (ap (λ (o : Option Id). option_or o c.world.session.framework) is) ∙ e)
