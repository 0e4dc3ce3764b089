-- The session's offers after it receives events, if some of its offers are removed first.
use Rattle.std.proofs.Common.{◌≡◌, ◌≤◌, Bool, true, false, not, filter, fold, map, List, [], ◌∷◌, refl, ap, ◌∙◌, arith}
use Rattle.std.specs.List.{flat_map}
use Rattle.std.specs.Str.{bytes_eq}
use Rattle.std.proofs.lemmas.Slice.Eq.{bytes_eq-Decides}
use Rattle.mes_model.specs.Offer.{Offer}
use Rattle.mes_model.specs.TaskStatus.{TaskStatus}
use Rattle.mes_msg.specs.Event.{Event}
use Rattle.mes_msg.specs.declared.entry.Entry.TheVariants.{Heard}
use Rattle.mes_session_state.specs.Keeping.{put}
use Rattle.mes_session_state.specs.Held.{Held, name_of, with_offers}
use Rattle.mes_session.specs.History.{after, offers_of, takes_offer}
use Rattle.mes_double_master.specs.Masters.{reconciled_event}
use Rattle.mes_double.proofs.CountLemmas.{count, count-append, count-first, count-later}
use Rattle.mes_double.proofs.ListLemmas.{filter-all, filter-turn}

-- the offers that events bring
abbrev pub brought : List Event → List Offer
brought events = flat_map (λ (e : Event). offers_of (Heard e)) events

-- the session after it receives events
abbrev pub hears : Held → List Event → Held
hears s events = fold (λ (s : Held) (e : Event). after s (Heard e)) s events

module _ (q : Offer → Bool) (alike : (a b : Offer) → name_of a ≡ name_of b → q a ≡ q b) where
  -- adding an offer that `q` accepts commutes with removing the offers that `q` rejects
  put-filter : (os : List Offer) (x : Offer) → q x ≡ true → put bytes_eq name_of (filter q os) x ≡ filter q (put bytes_eq name_of os x)
  put-filter [] x stays = rw stays refl
  put-filter (y ∷ ys) x stays = by (bytes_eq (name_of x) (name_of y)) refl (q y) refl (put-filter ys x stays)
    where
      by : (b : Bool) → bytes_eq (name_of x) (name_of y) ≡ b → (c : Bool) → q y ≡ c → put bytes_eq name_of (filter q ys) x ≡ filter q (put bytes_eq name_of ys x)
          → put bytes_eq name_of (filter q (y ∷ ys)) x ≡ filter q (put bytes_eq name_of (y ∷ ys) x)
      by true e true f rest = rw (e, f) (rw e (rw stays refl))
      by true e false f rest = (let g : q x ≡ q y = alike x y ((bytes_eq-Decides (name_of x) (name_of y)).0 e) in absurd (cc))
      by false e true f rest = rw (e, f) (rw e (ap (λ (os : List Offer). y ∷ os) rest))
      by false e false f rest = rw (e, f) rest

  with-filter : (os news : List Offer) → ((o : Offer) → 1 ≤ count (name_of o) news → q o ≡ true) → with_offers (filter q os) news ≡ filter q (with_offers os news)
  with-filter os [] stay = refl
  with-filter os (x ∷ news) stay =
      ap (λ (l : List Offer). with_offers l news) (put-filter os x (stay x (count-first x news)))
      ∙ with-filter (put bytes_eq name_of os x) news (λ o h. stay o (count-later (name_of o) x news h))

  pub put-in : (os news : List Offer) → ((o : Offer) → 1 ≤ count (name_of o) news → q o ≡ true) → with_offers (filter q os) news ≡ filter q (with_offers os news)
  put-in = with-filter

  hears-one : (s t : Held) (e : Event) → t.hand ≡ filter q s.hand → ((o : Offer) → 1 ≤ count (name_of o) (offers_of (Heard e)) → q o ≡ true)
      → (after t (Heard e)).hand ≡ filter q (after s (Heard e)).hand
  hears-one s t e same stay =
      let stays : Offer → Bool = λ o. not (takes_offer (name_of o) (Heard e)) in
      ap (λ (l : List Offer). with_offers (filter stays l) (offers_of (Heard e))) same
      ∙ ap (λ (l : List Offer). with_offers l (offers_of (Heard e))) (filter-turn stays q s.hand)
      ∙ with-filter (filter stays s.hand) (offers_of (Heard e)) stay

  -- removing offers that no event brings commutes with receiving the events
  pub hears-filter : (s t : Held) (events : List Event) → t.hand ≡ filter q s.hand → ((o : Offer) → 1 ≤ count (name_of o) (brought events) → q o ≡ true)
      → (hears t events).hand ≡ filter q (hears s events).hand
  hears-filter s t [] same stay = same
  hears-filter s t (e ∷ events) same stay =
      hears-filter (after s (Heard e)) (after t (Heard e)) events
      (hears-one s t e same (λ o h. stay o (omega (arith, h, count-append (name_of o) (offers_of (Heard e)) (brought events)))))
      (λ o h. stay o (omega (arith, h, count-append (name_of o) (offers_of (Heard e)) (brought events))))

-- statuses do not change the session's offers
pub hears-reported : (s : Held) (statuses : List TaskStatus) → (hears s (map reconciled_event statuses)).hand ≡ s.hand
hears-reported s [] = refl
hears-reported s (status ∷ statuses) = hears-reported (after s (Heard (reconciled_event status))) statuses ∙ filter-all s.hand
