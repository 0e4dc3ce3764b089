-- Lemmas about the offers of identifiers that are all outstanding.
use Rattle.std.proofs.Common.{◌≡◌, ℕ, zero, suc, ◌+◌, Bool, true, false, not, Option, Some, None, is_some, is_none, option_copied, Bor, List, [], ◌∷◌, length, slice_get, refl, sym, ◌∙◌, ap, true≢false, arith}
use Rattle.mes_model.specs.Id.{Id}
use Rattle.mes_model.specs.Offer.{Offer}
use Rattle.std.specs.List.{cons_option}
use Rattle.mes_session_state.specs.Held.{offer_in}
use Rattle.mes_session_state.specs.Refusals.{offers_named, agent_of, is_agent}
use Rattle.mes_session_state.specs.Looking.{is_missing, AreOutstanding}
use Rattle.mes_session_state.proofs.LookLemmas.{none-both}

pub copied-none : (r : Option (Bor Offer)) → is_none r ≡ is_none (option_copied r)
copied-none None = refl
copied-none (Some o) = refl

pub flipped : (a b : Bool) → a ≡ not b → b ≡ not a
flipped a true e = ap not (sym e)
flipped a false e = ap not (sym e)

pub none-is : {X : Type 0} (r : Option X) → is_none r ≡ true → r ≡ None
none-is None h = refl
none-is (Some o) h = absurd (true≢false (sym h))

module _ (hand : List Offer) where
  longer : (r : Option Offer) (os : List Offer) (n : ℕ) → is_none r ≡ false → n ≡ length os → n + 1 ≡ length (cons_option r os)
  longer None os n h e = absurd (true≢false h)
  longer (Some o) os n h e = omega arith

  pub counted : (ids : List Id) → AreOutstanding hand ids → length ids ≡ length (offers_named hand ids)
  counted [] h = refl
  counted (d ∷ ds) h =
      let parts = none-both (is_missing hand d) _ h in
      let more = longer (offer_in hand d.value) (offers_named hand ds) (length ds) parts.0 (counted ds parts.1) in
      omega (arith, more)

  pub present : (ids : List Id) (i : ℕ) (d : Id) → AreOutstanding hand ids → slice_get ids i ≡ Some d → is_missing hand d ≡ false
  present [] i d h e = absurd (cc)
  present (c ∷ ds) zero d h e = let s : c ≡ d = cc in ap (is_missing hand) (sym s) ∙ (none-both (is_missing hand c) _ h).0
  present (c ∷ ds) (suc i) d h e = present ds i d (none-both (is_missing hand c) _ h).1 e

  front : (r : Option Offer) (o : Offer) (os : List Offer) → r ≡ Some o → slice_get (cons_option r os) 0 ≡ Some o
  front r o os e = ap (λ q. slice_get (cons_option q os) 0) e

  later : (r : Option Offer) (i : ℕ) (o : Offer) (os : List Offer) → is_none r ≡ false → slice_get os i ≡ Some o → slice_get (cons_option r os) (suc i) ≡ Some o
  later None i o os h e = absurd (true≢false h)
  later (Some p) i o os h e = e

  pub named-at : (ids : List Id) (i : ℕ) (d : Id) (o : Offer) → AreOutstanding hand ids → slice_get ids i ≡ Some d → offer_in hand d.value ≡ Some o → slice_get (offers_named hand ids) i ≡ Some o
  named-at [] i d o h e f = absurd (cc)
  named-at (c ∷ ds) zero d o h e f = let s : c ≡ d = cc in front (offer_in hand c.value) o (offers_named hand ds) (ap (λ (x : Id). offer_in hand x.value) s ∙ f)
  named-at (c ∷ ds) (suc i) d o h e f =
      let parts = none-both (is_missing hand c) _ h in
      later (offer_in hand c.value) i o (offers_named hand ds) parts.0 (named-at ds i d o parts.1 e f)

some-copied : (r : Option (Bor Offer)) → is_none (option_copied r) ≡ false → is_some r ≡ true
some-copied None h = absurd (true≢false h)
some-copied (Some o) h = refl

module _ (hand : List Offer) (ids : List Id) (i : ℕ) (d : Id) (there : AreOutstanding hand ids) (at : slice_get ids i ≡ Some d) (r : Option (Bor Offer)) (found : option_copied r ≡ offer_in hand d.value) where
  pub is-there : is_some r ≡ true
  is-there = some-copied r (ap is_none found ∙ present hand ids i d there at)

  pub shown : (o : Bor Offer) → r ≡ Some o → slice_get (offers_named hand ids) i ≡ Some o.now
  shown o e = named-at hand ids i d o.now there at (sym found ∙ ap option_copied e)

-- ---- the agent of the first offer

pub no-agent : (os : List Offer) (agent : Id) → length os ≡ 0 → false ≡ is_agent (agent_of os) agent
no-agent [] agent e = refl
no-agent (o ∷ os) agent e = absurd (omega arith)

pub agent-is : (os : List Offer) (o : Offer) → slice_get os 0 ≡ Some o → agent_of os ≡ Some o.agent_id
agent-is [] o e = absurd (cc)
agent-is (p ∷ os) o e = let s : p ≡ o = cc in ap (λ (q : Offer). Some q.agent_id) s
