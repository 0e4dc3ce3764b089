-- Properties of a call that a session allows: its offers, its acknowledged update and its
-- framework.
use Rattle.std.proofs.Common.{◌≡◌, ℕ, suc, ◌≤◌, Bool, true, false, ◌||◌, inr, slice_get, List, [], ◌∷◌, Option, Some, None, refl, sym, ap, subst, ◌∙◌}
use Rattle.std.specs.Str.{bytes_eq}
use Rattle.std.proofs.lemmas.Slice.Eq.{bytes_eq-Decides}
use Rattle.mes_model.specs.Id.{Id}
use Rattle.mes_model.specs.Offer.{Offer}
use Rattle.mes_model.specs.OwedKey.{OwedKey}
use Rattle.mes_msg.specs.Call.{Call}
use Rattle.mes_msg.specs.Call.TheVariants as of
use Rattle.mes_session_state.specs.declared.refusal.Refusal.TheVariants.{NotSubscribed, NoSuchOffer, NotOwed}
use Rattle.mes_session_state.specs.Held.{Held, name_of, offer_in, names, is_owed}
use Rattle.mes_session_state.specs.Calls.{framework_of, named_by, acknowledged_by}
use Rattle.mes_session_state.specs.Refusals.{Answers, IsOtherFramework}
use Rattle.mes_double_master.specs.Masters.{same_id, agrees}
use Rattle.mes_double.proofs.CountLemmas.{count, count-found}

pub record Names (ids : List Id) (o : Offer) : Type 0 where
  pub place : ℕ
  pub id : Id
  pub there : slice_get ids place ≡ Some id
  pub same : id.value ≡ name_of o

named-at : (ids : List Id) (o : Offer) → names ids o ≡ true → Names ids o
named-at [] o e = absurd (cc)
named-at (d ∷ ds) o e = by (bytes_eq d.value (name_of o)) refl e (named-at ds o)
  where
    by : (b : Bool) → bytes_eq d.value (name_of o) ≡ b → (b || names ds o) ≡ true → (names ds o ≡ true → Names ds o) → Names (d ∷ ds) o
    by true f e rest = record { place = 0; id = d; there = refl; same = (bytes_eq-Decides d.value (name_of o)).0 f }
    by false f e rest = (let n : Names ds o = rest e in record { place = suc n.place; id = n.id; there = n.there; same = n.same })

module _ (s : Held) (call : Call) (said : Answers s call None) where
  pub named-found : (i : ℕ) (d : Id) → slice_get (named_by call) i ≡ Some d → offer_in s.hand d.value ≡ None → ⊥
  named-found i d there none = said (NoSuchOffer i) (d, there, none)

  pub named-in_hand : (o : Offer) → names (named_by call) o ≡ true → 1 ≤ count (name_of o) s.hand
  named-in_hand o e =
      let n : Names (named_by call) o = named-at (named_by call) o e in
      subst (λ (x : List ℕ). 1 ≤ count x s.hand) n.same (count-found n.id.value s.hand (named-found n.place n.id n.there))

  pub owed-key : (k : OwedKey) → acknowledged_by call ≡ Some k → is_owed k s.owed ≡ true
  owed-key k e = by (is_owed k s.owed) refl
    where
      by : (b : Bool) → is_owed k s.owed ≡ b → is_owed k s.owed ≡ true
      by true f = f
      by false f = absurd (said NotOwed (k, e, f))

not-strange : (s : Held) (framework : Id) → (IsOtherFramework s framework → ⊥) → s.framework ≡ Some framework
not-strange s framework fine = by s.framework refl
  where
    apart : (known : Id) → s.framework ≡ Some known → (b : Bool) → bytes_eq known.value framework.value ≡ b → s.framework ≡ Some framework
    apart known e true f =
        let same : known ≡ framework = λ i. record { value = (bytes_eq-Decides known.value framework.value).0 f i } in
        e ∙ ap (λ (d : Id). Some d) same
    apart known e false f =
        absurd (fine (inr (λ (g : s.framework ≡ Some framework).
        let h : Some known ≡ Some framework = sym e ∙ g in
        let k : known ≡ framework = cc in
        let l : bytes_eq known.value framework.value ≡ true = (bytes_eq-Decides known.value framework.value).1 (ap (λ (d : Id). d.value) k) in
        absurd (cc))))

    by : (o : Option Id) → s.framework ≡ o → s.framework ≡ Some framework
    by None e = absurd (fine (inr (λ (g : s.framework ≡ Some framework). let h : None ≡ Some framework = sym e ∙ g in absurd (cc))))
    by (Some known) e = apart known e (bytes_eq known.value framework.value) refl

-- an allowed call that names offers is of the framework that the session knows
pub of-known : (s : Held) (call : Call) (o : Offer) → Answers s call None → names (named_by call) o ≡ true → (framework : Id) → ((known : Id) → s.framework ≡ Some known → known ≡ framework)
    → agrees framework (framework_of call) ≡ true
of-known s call o said e framework one = by call said e
  where
    own : (other : Id) → s.framework ≡ Some other → same_id framework other ≡ true
    own other f = (bytes_eq-Decides framework.value other.value).1 (ap (λ (d : Id). d.value) (sym (one other f)))

    by : (call : Call) → Answers s call None → names (named_by call) o ≡ true → agrees framework (framework_of call) ≡ true
    by (of.Accept other body) said e = own other (not-strange s other (λ (f : IsOtherFramework s other). said NotSubscribed f))
    by (of.Decline other body) said e = own other (not-strange s other (λ (f : IsOtherFramework s other). said NotSubscribed f))
    by (of.Subscribe other body) said e = absurd (cc)
    by (of.Revive other) said e = absurd (cc)
    by (of.Kill other body) said e = absurd (cc)
    by (of.Acknowledge other body) said e = absurd (cc)
    by (of.Reconcile other body) said e = absurd (cc)
    by (of.Teardown other) said e = absurd (cc)
    by (of.Suppress other) said e = absurd (cc)
    by (of.Shutdown other body) said e = absurd (cc)
    by (of.Message other body) said e = absurd (cc)
