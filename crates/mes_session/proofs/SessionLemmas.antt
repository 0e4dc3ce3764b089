-- Lemmas about the state of a session, and its histories, after an entry of each type.
use Rattle.std.proofs.Common.{Result, Ok, Err, IfOk, IfErr, OnOk, ◌≡◌, ℕ, Bool, true, false, not, inl, inr, Option, Some, None, IfSome, List, [], ◌∷◌, ◌++◌, refl, sym, ◌∙◌, ap, subst, is_some, IsTrue, ◌↔◌}
use Rattle.std.specs.List.{filter, fold}
use Rattle.std.specs.Option.{option_or, option_to_list}
use Rattle.mes_model.specs.Owed.{owed_key_of, Owes}
use Rattle.mes_model.specs.Id.{Id}
use Rattle.mes_model.specs.Offer.{Offer}
use Rattle.mes_model.specs.OwedKey.{OwedKey}
use Rattle.mes_model.specs.declared.framework_info.FrameworkInfo.{FrameworkInfo}
use Rattle.mes_msg.specs.Subscribed.{Subscribed}
use Rattle.mes_msg.specs.ErrorBody.{ErrorBody}
use Rattle.mes_msg.specs.Failure.{Failure}
use Rattle.mes_msg.specs.Message.{Message}
use Rattle.mes_msg.specs.Rescind.{Rescind}
use Rattle.mes_msg.specs.Update.{Update}
use Rattle.mes_msg.specs.Event.TheVariants as heard
use Rattle.mes_msg.specs.Accept.{Accept}
use Rattle.mes_msg.specs.Acknowledge.{Acknowledge}
use Rattle.mes_msg.specs.Decline.{Decline}
use Rattle.mes_msg.specs.Event.{Event}
use Rattle.mes_msg.specs.Call.{Call}
use Rattle.mes_msg.specs.Call.TheVariants as of
use Rattle.mes_msg.specs.declared.entry.Entry.{Entry}
use Rattle.mes_msg.specs.declared.entry.Entry.TheVariants.{Heard, Said, Broken}
use Rattle.mes_session_state.specs.declared.refusal.Refusal.{Refusal}
use Rattle.mes_session_state.specs.declared.refusal.Refusal.TheVariants.{NotSubscribed, NamedTwice, NoSuchOffer, TwoAgents, WrongAgent, Exceeds, NotOwed, NoMemory}
use Rattle.mes_session_state.specs.Calls.{named_by, acknowledged_by}
use Rattle.mes_session_state.specs.Held.{Held, with_offers, without_offer, without_offers, with_key, without_key}
use Rattle.mes_session_state.specs.Refusals.{Answers, IsFaulty, IsOwn}
use Rattle.mes_session.specs.History.{Represents, StandsNext, is_key, after}
use Rattle.mes_session_calls.specs.Made.{subscribe_call}
use Rattle.mes_session.specs.Making.{Applied, Made, NotMade}
use Rattle.mes_session.proofs.HistoryLemmas.{Represents-push}

-- ---- `filter` with a test that all elements of a list pass, or none

module _ {X : Type 0} where
  filter-all : (xs : List X) → filter (λ x. true) xs ≡ xs
  filter-all [] = refl
  filter-all (x ∷ xs) = ap (λ (ys : List X). x ∷ ys) (filter-all xs)

  filter-none : (xs : List X) → filter (λ x. false) xs ≡ []
  filter-none [] = refl
  filter-none (x ∷ xs) = filter-none xs

same_held : (f : Option Id) (c : Bool) {g h : List Offer} {o p : List OwedKey} → g ≡ h → o ≡ p
    → (let a : Held = record { framework = f; connected = c; hand = g; owed = o } in let b : Held = record { framework = f; connected = c; hand = h; owed = p } in a ≡ b)
same_held f c e d = λ i. record { framework = f; connected = c; hand = e i; owed = d i }

-- ---- the state after an event, or after a disconnect

module _ (s t : Held) (same : s ≡ t) where
  pub subscribed-next : (b : Subscribed) (framework : Id) (hand : List Offer) → framework ≡ b.framework_id → hand ≡ []
      → (let u : Held = record { framework = Some framework; connected = true; hand = hand; owed = s.owed } in u ≡ after t (Heard (heard.Subscribed b)))
  subscribed-next b framework hand e d =
      (λ i. record { framework = Some (e i); connected = true; hand = d i; owed = s.owed })
      ∙ sym (same_held (Some b.framework_id) true (filter-none s.hand) (filter-all s.owed))
      ∙ ap (λ (u : Held). after u (Heard (heard.Subscribed b))) same

  pub offered-next : (offers : List Offer) (hand : List Offer) → hand ≡ with_offers s.hand offers
      → (let u : Held = record { framework = s.framework; connected = s.connected; hand = hand; owed = s.owed } in u ≡ after t (Heard (heard.Offers offers)))
  offered-next offers hand e =
      same_held s.framework s.connected (e ∙ ap (λ (os : List Offer). with_offers os offers) (sym (filter-all s.hand))) (sym (filter-all s.owed))
      ∙ ap (λ (u : Held). after u (Heard (heard.Offers offers))) same

  pub rescinded-next : (b : Rescind) (hand : List Offer) → hand ≡ without_offer b.offer_id.value s.hand
      → (let u : Held = record { framework = s.framework; connected = s.connected; hand = hand; owed = s.owed } in u ≡ after t (Heard (heard.Rescind b)))
  rescinded-next b hand e =
      same_held s.framework s.connected e (sym (filter-all s.owed))
      ∙ ap (λ (u : Held). after u (Heard (heard.Rescind b))) same

  pub updated-next : (b : Update) (key : Option OwedKey) (owed : List OwedKey) → key ≡ owed_key_of b.status → owed ≡ fold with_key s.owed (option_to_list key)
      → (let u : Held = record { framework = s.framework; connected = s.connected; hand = s.hand; owed = owed } in u ≡ after t (Heard (heard.Update b)))
  updated-next b key owed k e =
      same_held s.framework s.connected (sym (filter-all s.hand))
      (e ∙ (λ i. fold with_key (sym (filter-all s.owed) i) (option_to_list (k i))))
      ∙ ap (λ (u : Held). after u (Heard (heard.Update b))) same

  pub broken-next : (hand : List Offer) → hand ≡ []
      → (let u : Held = record { framework = s.framework; connected = false; hand = hand; owed = s.owed } in u ≡ after t Broken)
  broken-next hand e =
      same_held s.framework false (e ∙ sym (filter-none s.hand)) (sym (filter-all s.owed)) ∙ ap (λ (u : Held). after u Broken) same

module _ (s t : Held) (same : s ≡ t) {T E : Type 0} where
  pub offered-ok : (result : Result T E) (offers listed hand : List Offer) → listed ≡ offers → OnOk result (hand ≡ with_offers s.hand listed)
      → OnOk result (let u : Held = record { framework = s.framework; connected = s.connected; hand = hand; owed = s.owed } in u ≡ after t (Heard (heard.Offers offers)))
  offered-ok (Ok v) offers listed hand e h = offered-next s t same offers hand (h ∙ ap (with_offers s.hand) e)
  offered-ok (Err e) offers listed hand d h = tt

  pub updated-ok : (result : Result T E) (b : Update) (found : Option OwedKey) (key : OwedKey) (owed : List OwedKey) → found ≡ Some key → found ≡ owed_key_of b.status → OnOk result (owed ≡ with_key s.owed key)
      → OnOk result (let u : Held = record { framework = s.framework; connected = s.connected; hand = s.hand; owed = owed } in u ≡ after t (Heard (heard.Update b)))
  updated-ok (Ok v) b found key owed is k h = updated-next s t same b (Some key) owed (sym is ∙ k) h
  updated-ok (Err e) b found key owed is k h = tt

pub unowed-next : (s : Held) (b : Update) (found : Option OwedKey) → found ≡ None → found ≡ owed_key_of b.status → s ≡ after s (Heard (heard.Update b))
unowed-next s b found is k = updated-next s s refl b None s.owed (sym is ∙ k) refl

pub unowing-next : (s : Held) (b : Update) (owes : Bool) → (IsTrue owes ↔ Owes b.status) → owes ≡ false → s ≡ after s (Heard (heard.Update b))
unowing-next s b owes same never = go (owed_key_of b.status) refl
  where
    go : (found : Option OwedKey) → found ≡ owed_key_of b.status → s ≡ after s (Heard (heard.Update b))
    go None k = unowed-next s b None refl k
    go (Some key) k = let owed : Owes b.status = ap is_some (sym k) in let answered : owes ≡ true = same.1 owed in absurd (cc)

-- ---- an event that neither adds nor removes anything leaves the state unchanged

untouched : (s : Held) → (let t : Held = record { framework = s.framework; connected = s.connected; hand = filter (λ o. true) s.hand; owed = filter (λ k. true) s.owed } in s ≡ t)
untouched s = same_held s.framework s.connected (sym (filter-all s.hand)) (sym (filter-all s.owed))

pub message-next : (s : Held) (m : Message) → s ≡ after s (Heard (heard.Message m))
message-next s m = untouched s

pub failure-next : (s : Held) (f : Failure) → s ≡ after s (Heard (heard.Failure f))
failure-next s f = untouched s

pub error-next : (s : Held) (m : ErrorBody) → s ≡ after s (Heard (heard.Error m))
error-next s m = untouched s

pub heartbeat-next : (s : Held) → s ≡ after s (Heard heard.Heartbeat)
heartbeat-next s = untouched s

pub other-next : (s : Held) (name : List ℕ) → s ≡ after s (Heard (heard.Other name))
other-next s name = untouched s

pub idle_at : (s : Held) (e d : Event) → e ≡ d → s ≡ after s (Heard d) → s ≡ after s (Heard e)
idle_at s e d is next = next ∙ ap (λ (x : Event). after s (Heard x)) (sym is)

-- ---- the state after a call

module _ (s t : Held) (same : s ≡ t) (call : Call) where
  pub naming-next : (hand : List Offer) → acknowledged_by call ≡ None → hand ≡ without_offers (named_by call) s.hand
      → (let u : Held = record { framework = s.framework; connected = s.connected; hand = hand; owed = s.owed } in u ≡ after t (Said call))
  naming-next hand none e =
      same_held s.framework s.connected e (go (acknowledged_by call) none) ∙ ap (λ (u : Held). after u (Said call)) same
    where
      go : (o : Option OwedKey) → o ≡ None → s.owed ≡ filter (λ key. not (is_key key o)) s.owed
      go None d = sym (filter-all s.owed)
      go (Some k) d = absurd (cc)

  pub acknowledging-next : (key : OwedKey) (owed : List OwedKey) → named_by call ≡ [] → acknowledged_by call ≡ Some key → owed ≡ without_key key s.owed
      → (let u : Held = record { framework = s.framework; connected = s.connected; hand = s.hand; owed = owed } in u ≡ after t (Said call))
  acknowledging-next key owed none some e =
      same_held s.framework s.connected
      (sym (filter-all s.hand) ∙ ap (λ (ids : List Id). without_offers ids s.hand) (sym none))
      (e ∙ ap (λ (o : Option OwedKey). filter (λ k. not (is_key k o)) s.owed) (sym some))
      ∙ ap (λ (u : Held). after u (Said call)) same

  pub plain-next : named_by call ≡ [] → acknowledged_by call ≡ None → t ≡ after t (Said call)
  plain-next none no_key =
      sym same ∙ naming-next s.hand no_key (sym (filter-all s.hand) ∙ ap (λ (ids : List Id). without_offers ids s.hand) (sym none))

module _ (s t : Held) (same : s ≡ t) (call : Call) (framework : Id) where
  pub accepted-next : (b : Accept) (ids : List Id) (hand : List Offer) → call ≡ of.Accept framework b → ids ≡ b.offer_ids → hand ≡ without_offers ids s.hand
      → (let u : Held = record { framework = s.framework; connected = s.connected; hand = hand; owed = s.owed } in u ≡ after t (Said call))
  accepted-next b ids hand is are e =
      naming-next s t same call hand (ap acknowledged_by is) (e ∙ ap (λ (ds : List Id). without_offers ds s.hand) (are ∙ sym (ap named_by is)))

  pub declined-next : (b : Decline) (ids : List Id) (hand : List Offer) → call ≡ of.Decline framework b → ids ≡ b.offer_ids → hand ≡ without_offers ids s.hand
      → (let u : Held = record { framework = s.framework; connected = s.connected; hand = hand; owed = s.owed } in u ≡ after t (Said call))
  declined-next b ids hand is are e =
      naming-next s t same call hand (ap acknowledged_by is) (e ∙ ap (λ (ds : List Id). without_offers ds s.hand) (are ∙ sym (ap named_by is)))

  pub acknowledged-next : (b : Acknowledge) (owed : List OwedKey) → call ≡ of.Acknowledge framework b
      → (let key : OwedKey = record { agent = b.agent_id; task = b.task_id; uuid = b.uuid } in owed ≡ without_key key s.owed)
      → (let u : Held = record { framework = s.framework; connected = s.connected; hand = s.hand; owed = owed } in u ≡ after t (Said call))
  acknowledged-next b owed is e =
      acknowledging-next s t same call (record { agent = b.agent_id; task = b.task_id; uuid = b.uuid }) owed (ap named_by is) (ap acknowledged_by is) e

pub idle-next : (s : Held) (call : Call) → ((f : Id) (b : Accept) → call ≡ of.Accept f b → ⊥) → ((f : Id) (b : Decline) → call ≡ of.Decline f b → ⊥) → ((f : Id) (b : Acknowledge) → call ≡ of.Acknowledge f b → ⊥) → s ≡ after s (Said call)
idle-next s (of.Subscribe f b) x y z = untouched s
idle-next s (of.Accept f b) x y z = absurd (x f b refl)
idle-next s (of.Decline f b) x y z = absurd (y f b refl)
idle-next s (of.Revive f) x y z = untouched s
idle-next s (of.Kill f b) x y z = untouched s
idle-next s (of.Acknowledge f b) x y z = absurd (z f b refl)
idle-next s (of.Reconcile f b) x y z = untouched s
idle-next s (of.Teardown f) x y z = untouched s
idle-next s (of.Suppress f) x y z = untouched s
idle-next s (of.Shutdown f b) x y z = untouched s
idle-next s (of.Message f b) x y z = untouched s

-- ---- an applied entry or call leads from a history of the old state to one of the new

pub next-represents : (s t : Held) (e : Entry) → t ≡ after s e → StandsNext e s t
next-represents s t e same h represents = subst (λ (u : Held). Represents (h ++ e ∷ []) u) (sym same) (Represents-push h s e represents)

pub applied : (s t : Held) (call : Call) → Answers s call None → t ≡ after s (Said call) → Applied s call t
applied s t call accepted next = record { accepted = accepted; next = next; represents = next-represents s t (Said call) next }

-- ---- a SUBSCRIBE of the known framework is never refused

subscribe-fits : (s : Held) (info : FrameworkInfo) (fault : Refusal) → IsFaulty s (subscribe_call s.framework info) fault → ⊥
subscribe-fits s info NotSubscribed f =
    let e : Some f.1 ≡ Some f.0 = sym f.3 ∙ ap (λ (o : Option Id). option_or o info.id) f.2 in
    f.4 (cc)
subscribe-fits s info NamedTwice (inl e) = absurd (cc)
subscribe-fits s info NamedTwice (inr e) = absurd (cc)
subscribe-fits s info (NoSuchOffer i) f = absurd (cc f.1)
subscribe-fits s info TwoAgents f = absurd (cc)
subscribe-fits s info (WrongAgent i) f = absurd (cc f.1)
subscribe-fits s info (Exceeds i j) f = absurd (cc f.task_at)
subscribe-fits s info NotOwed f = absurd (cc f.1)
subscribe-fits s info NoMemory f = f

pub subscribe-answers : (s : Held) (info : FrameworkInfo) → Answers s (subscribe_call s.framework info) None
subscribe-answers s info = subscribe-fits s info

-- ---- the contracts of functions that make a call: call made, or refused

copied-is : {E : Type 0} (P : Call → Type 0) (copied : Result Call E) (call : Call) → copied ≡ Ok call → IfOk copied P → P call
copied-is {E = E} P copied call e h = let Q : Result Call E → Type 0 = λ r. IfOk r P in subst Q e h

pub subscribed_ok : (s t : Held) (known : Option Id) (info : FrameworkInfo) {E : Type 0} (copied : Result Call E) (result : Result Call Refusal) → known ≡ s.framework → IfOk copied (λ call. call ≡ subscribe_call known info)
    → IfOk result (λ made. (copied ≡ Ok made) × (t ≡ after s (Said made))) → IfOk result (λ call. Applied s call t)
subscribed_ok s t known info copied (Ok call) is copy h =
    let e : call ≡ subscribe_call s.framework info = copied-is (λ c. c ≡ subscribe_call known info) copied call h.0 copy ∙ ap (λ (k : Option Id). subscribe_call k info) is in
    applied s t call (subst (λ (c : Call). Answers s c None) (sym e) (subscribe-answers s info)) h.1
subscribed_ok s t known info copied (Err e) is copy h = tt

module _ (make : Id → Call) (held s : Held) (same : held ≡ s) (answer : Option Refusal) (answers : (f : Id) → IsOwn held f → Answers held (make f) answer) where
  answers_here : (o : Option Refusal) → answer ≡ o → (f : Id) → IsOwn s f → Answers s (make f) o
  answers_here o e f own =
      subst (λ (u : Held). Answers u (make f) o) same
      (subst (λ (a : Option Refusal). Answers held (make f) a) e (answers f (subst (λ (u : Held). IsOwn u f) (sym same) own)))

  pub turned_down : (refusal : Refusal) → answer ≡ Some refusal → NotMade make s s refusal
  turned_down refusal e = record { reported = λ f own. inl (answers_here (Some refusal) e f own); same = refl }

  pub made_ok : (t : Held) (framework : Id) {E : Type 0} (copied : Result Call E) (result : Result Call Refusal) → answer ≡ None → s.framework ≡ Some framework → IfOk copied (λ call. call ≡ make framework)
      → IfOk result (λ made. (copied ≡ Ok made) × (t ≡ after s (Said made))) → IfOk result (λ call. Made make s t call)
  made_ok t framework copied (Ok call) none known copy h =
      let is : call ≡ make framework = copied-is (λ c. c ≡ make framework) copied call h.0 copy in
      let own : IsOwn s framework = subst (λ (o : Option Id). IfSome o (λ k. k ≡ framework)) (sym known) refl in
      record {
        framework = framework;
        known = known;
        is = is;
        applied = applied s t call (subst (λ (c : Call). Answers s c None) (sym is) (answers_here None none framework own)) h.1;
      }
  made_ok t framework copied (Err e) none known copy h = tt

  pub made_err : (t : Held) (result : Result Call Refusal) → answer ≡ None → IfErr result (λ refusal. (refusal ≡ NoMemory) × (t ≡ s)) → IfErr result (λ refusal. NotMade make s t refusal)
  made_err t (Ok call) none h = tt
  made_err t (Err refusal) none h = record { reported = λ f own. inr (h.0, answers_here None none f own); same = h.1 }
