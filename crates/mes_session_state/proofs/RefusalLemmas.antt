-- The result of checking a call, from the results of the searches.
use Rattle.std.proofs.Common.{◌≡◌, ◌⊎◌, inl, inr, ℕ, Bool, true, false, Option, Some, None, List, [], ◌∷◌, ◌++◌, not, refl, sym, ◌∙◌, ap, subst, is_none, unwrap_or, true≢false}
use Rattle.std.specs.List.{list_any}
use Rattle.mes_model.specs.Id.{Id}
use Rattle.mes_model.specs.Offer.{Offer}
use Rattle.mes_model.specs.OwedKey.{OwedKey}
use Rattle.mes_model.specs.TaskInfo.{TaskInfo}
use Rattle.std.specs.Str.{bytes_eq}
use Rattle.std.specs.Cmp.Lexicographic.{bytes_decides}
use Rattle.mes_msg.specs.Call.{Call}
use Rattle.mes_msg.specs.Call.TheVariants as of
use Rattle.mes_msg.specs.Accept.{Accept}
use Rattle.mes_msg.specs.Decline.{Decline}
use Rattle.mes_msg.specs.Acknowledge.{Acknowledge}
use Rattle.mes_msg.specs.Operation.{Operation}
use Rattle.mes_session_fit.specs.Fits.{Fits, BreaksAt, IsFirstBreach}
use Rattle.mes_session_fit.specs.Launched.{as_index, launched, launched_by}
use Rattle.mes_session_fit.proofs.FitsLemmas.{no-breach, fits-none as fits-of}
use Rattle.mes_session_state.specs.declared.refusal.Refusal.{Refusal}
use Rattle.mes_session_state.specs.declared.refusal.Refusal.TheVariants.{NotSubscribed, NamedTwice, NoSuchOffer, TwoAgents, WrongAgent, Exceeds, NotOwed, NoMemory}
use Rattle.mes_session_state.specs.Held.{Held, offer_in, is_owed}
use Rattle.mes_session_state.specs.Calls.{framework_of, operations_of}
use Rattle.mes_session_state.specs.Refusals.{IsOtherFramework, IsOtherSubscription, IsPlain, Asked, asked_by, IsForeign, IsFaultyIn, IsFaulty, ReportsFirst, Answers, is_duplicated, ids_of, offers_named, has_two_agents, is_elsewhere}
use Rattle.mes_session_state.specs.Looking.{IsFirstAt, is_missing, AreOutstanding}
use Rattle.mes_session_state.proofs.LookLemmas.{none-before, none-at}
use Rattle.mes_session_state.proofs.NamedLemmas.{none-is}
use Rattle.mes_session_state.proofs.SlotLemmas.{not-none}
use Rattle.mes_session_state.proofs.FirstLemmas.{first-1, first-2, first-3, first-4, first-5, first-6, first-7, none-of}

missing-is : {X : Type 0} (r : Option X) → r ≡ None → is_none r ≡ true
missing-is r e = ap is_none e

-- if S1 does not apply to a call, the reasons that apply to it are those of the call's parts
module _ (held : Held) (call : Call) (known : IsForeign held call → ⊥) where
  down : (fault : Refusal) → IsFaulty held call fault → IsFaultyIn held (asked_by call) fault
  down NotSubscribed f = absurd (known f)
  down NamedTwice f = f
  down (NoSuchOffer i) f = f
  down TwoAgents f = f
  down (WrongAgent i) f = f
  down (Exceeds i j) f = f
  down NotOwed f = f
  down NoMemory f = f

  up : (fault : Refusal) → IsFaultyIn held (asked_by call) fault → IsFaulty held call fault
  up NotSubscribed f = absurd f
  up NamedTwice f = f
  up (NoSuchOffer i) f = f
  up TwoAgents f = f
  up (WrongAgent i) f = f
  up (Exceeds i j) f = f
  up NotOwed f = f
  up NoMemory f = f

  pub lift : (answer : Option Refusal) → ReportsFirst (IsFaultyIn held (asked_by call)) answer → Answers held call answer
  lift None none = λ fault f. none fault (down fault f)
  lift (Some answer) reported = (reported.0, reported.1, record { is = up reported.0 reported.2.is; first = λ other before f. reported.2.first other before (down other f) })

pub foreign : (held : Held) (call : Call) → IsForeign held call → Answers held call (Some NotSubscribed)
foreign held call f = (NotSubscribed, refl, first-1 (IsFaulty held call) f)

-- ---- the first reason for given parts of a call

module _ (held : Held) (asked : Asked) where
  abbrev Faulty : Refusal → Type 0
  Faulty fault = IsFaultyIn held asked fault

  s1 : Faulty NotSubscribed → ⊥
  s1 f = f

  pub told-twice : (is_duplicated asked.named ≡ true) ⊎ (is_duplicated (ids_of asked.tasks) ≡ true) → ReportsFirst (IsFaultyIn held asked) (Some NamedTwice)
  told-twice f = (NamedTwice, refl, first-2 Faulty s1 f)

  module _ (names : is_duplicated asked.named ≡ false) (tasks : is_duplicated (ids_of asked.tasks) ≡ false) where
    s2 : Faulty NamedTwice → ⊥
    s2 (inl h) = true≢false (sym h ∙ names)
    s2 (inr h) = true≢false (sym h ∙ tasks)

    pub told-missing : (i : ℕ) → IsFirstAt (is_missing held.hand) asked.named i → ReportsFirst (IsFaultyIn held asked) (Some (NoSuchOffer i))
    told-missing i h = (
      NoSuchOffer i,
      refl,
      first-3 Faulty s1 s2 i (h.0, h.1, none-is (offer_in held.hand h.0.value) h.2)
          (λ k below f. none-before (is_missing held.hand) asked.named i h.3 k f.0 below f.1 (missing-is _ f.2)),
    )

    module _ (there : AreOutstanding held.hand asked.named) where
      s3 : (k : ℕ) → Faulty (NoSuchOffer k) → ⊥
      s3 k f = none-at (is_missing held.hand) asked.named there k f.0 f.1 (missing-is _ f.2)

      pub told-agents : has_two_agents (offers_named held.hand asked.accepted) ≡ true → ReportsFirst (IsFaultyIn held asked) (Some TwoAgents)
      told-agents h = (TwoAgents, refl, first-4 Faulty s1 s2 s3 h)

      module _ (one : has_two_agents (offers_named held.hand asked.accepted) ≡ false) where
        s4 : Faulty TwoAgents → ⊥
        s4 f = true≢false (sym f ∙ one)

        pub told-on_other_agent : (n i : ℕ) → n ≡ as_index i → IsFirstAt (is_elsewhere (offers_named held.hand asked.accepted)) asked.tasks i → ReportsFirst (IsFaultyIn held asked) (Some (WrongAgent n))
        told-on_other_agent n i e h = (
          WrongAgent i,
          ap WrongAgent e,
          first-5 Faulty s1 s2 s3 s4 i (h.0, h.1, h.2)
              (λ k below f. none-before (is_elsewhere (offers_named held.hand asked.accepted)) asked.tasks i h.3 k f.0 below f.1 f.2),
        )

        module _ (here : list_any (is_elsewhere (offers_named held.hand asked.accepted)) asked.tasks ≡ false) where
          s5 : (k : ℕ) → Faulty (WrongAgent k) → ⊥
          s5 k f = none-at (is_elsewhere (offers_named held.hand asked.accepted)) asked.tasks here k f.0 f.1 f.2

          pub told-exceeds : (n i j : ℕ) → n ≡ as_index i → IsFirstBreach (offers_named held.hand asked.accepted) asked.tasks i j → ReportsFirst (IsFaultyIn held asked) (Some (Exceeds n j))
          told-exceeds n i j e h = (Exceeds i j, ap (λ m. Exceeds m j) e, first-6 Faulty s1 s2 s3 s4 s5 i j h.breach h.first)

          module _ (fits : Fits (offers_named held.hand asked.accepted) asked.tasks) where
            s6 : (k l : ℕ) → Faulty (Exceeds k l) → ⊥
            s6 k l f = no-breach (offers_named held.hand asked.accepted) asked.tasks fits k l f

            pub told-unowed : (k : OwedKey) → asked.acknowledged ≡ Some k → is_owed k held.owed ≡ false → ReportsFirst (IsFaultyIn held asked) (Some NotOwed)
            told-unowed k e h = (NotOwed, refl, first-7 Faulty s1 s2 s3 s4 s5 s6 (k, e, h))

            pub told-none : ((k : OwedKey) → asked.acknowledged ≡ Some k → is_owed k held.owed ≡ false → ⊥) → ReportsFirst (IsFaultyIn held asked) None
            told-none owes = none-of Faulty s1 s2 s3 s4 s5 s6 (λ f. owes f.0 f.1 f.2) (λ f. f)

-- ---- an empty list of tasks fits any offers

no-resource : (offers : List Offer) (i j : ℕ) → BreaksAt offers [] i j → ⊥
no-resource offers i j b = absurd (not-none b.task (sym b.task_at))

pub fits-none : (offers : List Offer) → Fits offers []
fits-none offers = fits-of offers [] (no-resource offers)

-- ---- the parts of an ACKNOWLEDGE, and of a call without offers, tasks or a key

pub owed-one : (held : Held) (k : OwedKey) → is_owed k held.owed ≡ true → ReportsFirst (IsFaultyIn held (record { named = []; accepted = []; tasks = []; acknowledged = Some k })) None
owed-one held k h =
    told-none held (record { named = []; accepted = []; tasks = []; acknowledged = Some k }) refl refl refl refl refl (fits-none [])
    (λ l e g. true≢false (sym h ∙ ap (λ o. is_owed (unwrap_or o k) held.owed) e ∙ g))

pub unowed-one : (held : Held) (k : OwedKey) → is_owed k held.owed ≡ false → ReportsFirst (IsFaultyIn held (record { named = []; accepted = []; tasks = []; acknowledged = Some k })) (Some NotOwed)
unowed-one held k h = told-unowed held (record { named = []; accepted = []; tasks = []; acknowledged = Some k }) refl refl refl refl refl (fits-none []) k refl h

pub nothing-asked : (held : Held) → ReportsFirst (IsFaultyIn held (record { named = []; accepted = []; tasks = []; acknowledged = None })) None
nothing-asked held =
    told-none held (record { named = []; accepted = []; tasks = []; acknowledged = None }) refl refl refl refl refl (fits-none []) (λ l e g. not-none l (sym e))

-- ---- from the parts of a call to the call

module _ (held : Held) (call : Call) (known : IsForeign held call → ⊥) (r : Option Refusal) where
  pub reported : (asked : Asked) → asked ≡ asked_by call → ReportsFirst (IsFaultyIn held asked) r → Answers held call r
  reported asked e h = lift held call known r (subst (λ a. ReportsFirst (IsFaultyIn held a) r) e h)

  pub told-accept : {f : Id} {b : Accept} → call ≡ of.Accept f b → (ids : List Id) (os : List Operation) → ids ≡ b.offer_ids → os ≡ b.operations
      → ReportsFirst (IsFaultyIn held (record { named = ids; accepted = ids; tasks = launched launched_by os; acknowledged = None })) r → Answers held call r
  told-accept is ids os e g h =
      reported (record { named = ids; accepted = ids; tasks = launched launched_by os; acknowledged = None })
      ((λ j. record { named = e j; accepted = e j; tasks = launched launched_by (g j); acknowledged = None }) ∙ ap asked_by (sym is)) h

  pub told-decline : {f : Id} {b : Decline} → call ≡ of.Decline f b → (ids : List Id) → ids ≡ b.offer_ids
      → ReportsFirst (IsFaultyIn held (record { named = ids; accepted = []; tasks = []; acknowledged = None })) r → Answers held call r
  told-decline is ids e h =
      reported (record { named = ids; accepted = []; tasks = []; acknowledged = None }) ((λ j. record { named = e j; accepted = []; tasks = []; acknowledged = None }) ∙ ap asked_by (sym is)) h

pub told-acknowledge : (held : Held) (call : Call) → (IsForeign held call → ⊥) → {f : Id} {b : Acknowledge} → call ≡ of.Acknowledge f b
    → is_owed (record { agent = b.agent_id; task = b.task_id; uuid = b.uuid }) held.owed ≡ false → Answers held call (Some NotOwed)
told-acknowledge held call known {b = b} is h =
    reported held call known (Some NotOwed) (record { named = []; accepted = []; tasks = []; acknowledged = Some (record { agent = b.agent_id; task = b.task_id; uuid = b.uuid }) }) (ap asked_by (sym is))
    (unowed-one held (record { agent = b.agent_id; task = b.task_id; uuid = b.uuid }) h)

pub one-group : (ts : List TaskInfo) → ts ++ [] ≡ launched launched_by (operations_of ts)
one-group [] = refl
one-group (t ∷ ts) = refl

-- ---- when S1 applies

own-strange : (held : Held) (f g : Id) → Some f ≡ Some g → IsOtherFramework held g → IsOtherFramework held f
own-strange held f g e s = subst (IsOtherFramework held) (sym (ap (λ (o : Option Id). unwrap_or o f) e)) s

pub strange-plain : (held : Held) (call : Call) (g : Id) → framework_of call ≡ Some g → IsPlain call → IsOtherFramework held g → IsForeign held call
strange-plain held (of.Subscribe f b) g e p s = absurd p
strange-plain held (of.Accept f b) g e p s = own-strange held f g e s
strange-plain held (of.Decline f b) g e p s = own-strange held f g e s
strange-plain held (of.Revive f) g e p s = own-strange held f g e s
strange-plain held (of.Kill f b) g e p s = own-strange held f g e s
strange-plain held (of.Acknowledge f b) g e p s = own-strange held f g e s
strange-plain held (of.Reconcile f b) g e p s = own-strange held f g e s
strange-plain held (of.Teardown f) g e p s = own-strange held f g e s
strange-plain held (of.Suppress f) g e p s = own-strange held f g e s
strange-plain held (of.Shutdown f b) g e p s = own-strange held f g e s
strange-plain held (of.Message f b) g e p s = own-strange held f g e s

differ : (b : Bool) → true ≡ not b → b ≡ true → ⊥
differ true t h = true≢false t
differ false t h = true≢false (sym h)

pub another : (held : Held) (sent : Option Id) (known named : Id) → held.framework ≡ Some known → sent ≡ Some named → (r : Bool) → r ≡ not (bytes_eq named.value known.value)
    → (r ≡ true → IsOtherSubscription held sent) × (IsOtherSubscription held sent → r ≡ true)
another held sent known named f n r e = (
  λ t. (known, named, f, n, λ same. differ (bytes_eq named.value known.value) (sym t ∙ e) ((bytes_decides named.value known.value).1 (ap (λ (d : Id). d.value) same))),
  λ a. e ∙ by (bytes_eq named.value known.value) refl a,
)
  where
    by : (b : Bool) → bytes_eq named.value known.value ≡ b → IsOtherSubscription held sent → not b ≡ true
    by false t a = refl
    by true t a =
        let one : named ≡ known = (λ j. record { value = (bytes_decides named.value known.value).0 t j }) in
        let of_named : a.1 ≡ named = ap (λ (o : Option Id). unwrap_or o named) (sym a.3 ∙ n) in
        let of_known : a.0 ≡ known = ap (λ (o : Option Id). unwrap_or o known) (sym a.2 ∙ f) in
        absurd (a.4 (of_named ∙ one ∙ sym of_known))
