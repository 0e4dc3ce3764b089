-- The contracts of the functions that make a move imply the effect of the move.
use Rattle.std.proofs.Common.{◌≡◌, ℕ, Bool, true, false, ◌⊎◌, inl, inr, Result, Ok, Err, OnOk, IsErr, slice_get, List, [], ◌∷◌, ◌++◌, Option, Some, None, refl, sym, ap, subst, ◌∙◌}
use Rattle.mes_model.specs.Id.{Id}
use Rattle.mes_model.specs.declared.framework_info.FrameworkInfo.{FrameworkInfo}
use Rattle.mes_msg.specs.Event.{Event}
use Rattle.mes_msg.specs.Call.{Call}
use Rattle.mes_msg.specs.declared.entry.Entry.TheVariants.{Heard, Said}
use Rattle.mes_session_state.specs.declared.refusal.Refusal.{Refusal}
use Rattle.mes_session_state.specs.Held.{Held}
use Rattle.mes_session_state.specs.Refusals.{Answers}
use Rattle.mes_session.specs.History.{after}
use Rattle.mes_session.specs.Made.{subscribe_call}
use Rattle.mes_session.specs.Making.{Applied}
use Rattle.mes_double_master.specs.declared.refusal.MasterRefusal.{MasterRefusal}
use Rattle.mes_double_master.specs.declared.refusal.MasterRefusal.TheVariants.{NoMemory}
use Rattle.mes_double_master.specs.Masters.{MasterState, MasterAnswer, IsAnswer, handled}
use Rattle.mes_double_master.specs.Sending.{Sends}
use Rattle.mes_double.specs.declared.sent.Sent.{Sent}
use Rattle.mes_double.specs.Worlds.{WorldState, skip, sending, hearing, Wishes, is_done, answer_to, answering, arriving, resubscribing, subscribe_answer, world_info, taking, reopening}
use Rattle.mes_double.proofs.ListLemmas.{apart, filter-all}
use Rattle.mes_double.proofs.ReachLemmas.{out-status, Reached, reach}
use Rattle.mes_double.proofs.ReachLemmas.Reached.{turned, opened, did}

-- ---- the master sends an event

module _ {T E : Type 0} where
  pub sent-ok : (result : Result T E) (w v : WorldState) (sends : Sends) (m : MasterState) (e : Event) → sends ≡ Ok (e, m)
      → OnOk result (v ≡ record w { master = m; waiting = w.waiting ++ e ∷ [] }) → OnOk result (v ≡ sending w sends)
  sent-ok (Ok t) w v sends m e is h = h ∙ ap (sending w) (sym is)
  sent-ok (Err x) w v sends m e is h = tt

  pub sent-err : (result : Result T E) (w v : WorldState) (sends : Sends) (m : MasterState) (why : MasterRefusal) → m ≡ w.master → (why ≡ NoMemory) ⊎ (sends ≡ Err why)
      → (why ≡ NoMemory → IsErr result) → OnOk result (v ≡ skip (record w { master = m })) → OnOk result (v ≡ sending w sends)
  sent-err (Ok t) w v sends m why same (inl none) reported h = absurd (let f : false ≡ true = reported none in cc)
  sent-err (Ok t) w v sends m why same (inr is) reported h = h ∙ ap (λ (n : MasterState). skip (record w { master = n })) same ∙ ap (sending w) (sym is)
  sent-err (Err x) w v sends m why same reason reported h = tt

  pub resent-ok : (result : Result T E) (w u v : WorldState) (sends : WorldState → Sends) → w ≡ u → (e : Event) → sends u ≡ Ok (e, u.master)
      → OnOk result (v ≡ record w { waiting = w.waiting ++ e ∷ [] }) → OnOk result (v ≡ sending w (sends w))
  resent-ok (Ok t) w u v sends same e is h =
      h ∙ ap (λ (x : WorldState). record w { master = x.master; waiting = w.waiting ++ e ∷ [] }) same ∙ ap (sending w) (sym is ∙ ap sends (sym same))
  resent-ok (Err x) w u v sends same e is h = tt

  pub resent-err : (result : Result T E) (w u v : WorldState) (sends : WorldState → Sends) → w ≡ u → (why : MasterRefusal) → (why ≡ NoMemory) ⊎ (sends u ≡ Err why)
      → (why ≡ NoMemory → IsErr result) → OnOk result (v ≡ skip w) → OnOk result (v ≡ sending w (sends w))
  resent-err (Ok t) w u v sends same why (inl none) reported h = absurd (let f : false ≡ true = reported none in cc)
  resent-err (Ok t) w u v sends same why (inr is) reported h = h ∙ ap (sending w) (sym is ∙ ap sends (sym same))
  resent-err (Err x) w u v sends same why reason reported h = tt

-- ---- the session receives an event

module _ {T E : Type 0} where
  pub heard-first : (result : Result T E) (w u v : WorldState) (e : Event) (rest : List Event) → u ≡ w → u.waiting ≡ e ∷ rest
      → OnOk result (v ≡ record u { session = after u.session (Heard e); waiting = rest }) → OnOk result (v ≡ hearing w w.waiting)
  heard-first (Ok t) w u v e rest same is h = h ∙ ap (hearing u) (sym is) ∙ ap (λ (x : WorldState). hearing x x.waiting) same
  heard-first (Err x) w u v e rest same is h = tt

pub heard-none : (w u v : WorldState) (rest : List Event) → u ≡ w → (u.waiting ≡ []) × (rest ≡ []) → v ≡ skip (record u { waiting = rest }) → v ≡ hearing w w.waiting
heard-none w u v rest same is h =
    h ∙ ap (λ (l : List Event). skip (record u { waiting = l })) (is.1 ∙ sym is.0) ∙ ap (hearing u) (sym is.0) ∙ ap (λ (x : WorldState). hearing x x.waiting) same

-- ---- the master responds to a call

pub not-done : (m : MasterState) (call : Call) (given : Option (List ℕ)) → is_done (handled m call given).status ≡ false → (handled m call given).master ≡ m
not-done m call given none = by (reach m call given)
  where
    by : Reached m call given → (handled m call given).master ≡ m
    by (turned status f is) = ap (λ (a : MasterAnswer). a.master) is
    by (opened uuid uuids f up is) = apart (is_done (handled m call given).status) (ap (λ (a : MasterAnswer). is_done a.status) is) none
    by (did o is) = apart (is_done (handled m call given).status) (ap (λ (a : MasterAnswer). is_done a.status) is ∙ ap is_done (out-status m call)) none

pub taken : (w : WorldState) (p : Sent) (status : ℕ) (events : List Event) (m : MasterState) → IsAnswer (answer_to w p) status events m → taking (record w { master = m }) status events ≡ answering w (answer_to w p)
taken w p status events m a =
    (λ i. taking (record w { master = a.master_is i }) (a.status_is i) (a.events_are i)) ∙ by (is_done (answer_to w p).status) refl
  where
    by : (b : Bool) → is_done (answer_to w p).status ≡ b → taking (record w { master = (answer_to w p).master }) (answer_to w p).status (answer_to w p).events ≡ answering w (answer_to w p)
    by true e = rw e refl
    by false e = rw e (ap (λ (n : MasterState). skip (record w { master = n })) (not-done w.master p.call (Some p.stream) e))

pub reopened : (w : WorldState) (call : Call) (status : ℕ) (events : List Event) (m : MasterState) → IsAnswer (handled w.master call None) status events m
    → reopening (record w { master = m }) status events ≡ resubscribing w (handled w.master call None)
reopened w call status events m a =
    (λ i. reopening (record w { master = a.master_is i }) (a.status_is i) (a.events_are i)) ∙ by (is_done (handled w.master call None).status) refl
  where
    by : (b : Bool) → is_done (handled w.master call None).status ≡ b → reopening (record w { master = (handled w.master call None).master }) (handled w.master call None).status (handled w.master call None).events ≡ resubscribing w (handled w.master call None)
    by true e = rw e refl
    by false e = rw e (ap (λ (n : MasterState). skip (record w { master = n })) (not-done w.master call None e))

module _ {T E : Type 0} where
  pub arrives-ok : (result : Result T E) (w v : WorldState) (index : ℕ) (p : Sent) (status : ℕ) (events : List Event) (m : MasterState) → slice_get w.sent index ≡ Some p → IsAnswer (answer_to w p) status events m
      → OnOk result (v ≡ taking (record w { master = m }) status events) → OnOk result (v ≡ arriving w (slice_get w.sent index))
  arrives-ok (Ok t) w v index p status events m there a h = h ∙ taken w p status events m a ∙ ap (arriving w) (sym there)
  arrives-ok (Err x) w v index p status events m there a h = tt

  -- ---- the session sends a call

  pub said-ok : (result : Result T E) (w v : WorldState) (s : Held) (call : Call) (stream : List ℕ) → w.master.stream ≡ Some stream → Applied w.session call s
      → OnOk result (v ≡ record w { session = s; sent = w.sent ++ record { call = call; stream = stream } ∷ [] }) → OnOk result (Wishes w call w.master.stream v)
  said-ok (Ok t) w v s call stream current a h =
      subst (λ (o : Option (List ℕ)). Wishes w call o v) (sym current)
      (None, a.accepted, h ∙ ap (λ (x : Held). record w { session = x; sent = w.sent ++ record { call = call; stream = stream } ∷ [] }) a.next)
  said-ok (Err x) w v s call stream current a h = tt

pub said-err : (w v : WorldState) (s : Held) (call : Call) (stream : List ℕ) (why : Refusal) → w.master.stream ≡ Some stream → Answers w.session call (Some why) → s ≡ w.session
    → v ≡ skip (record w { session = s }) → Wishes w call w.master.stream v
said-err w v s call stream why current a same h =
    subst (λ (o : Option (List ℕ)). Wishes w call o v) (sym current)
    (Some why, a, h ∙ ap (λ (x : Held). skip (record w { session = x })) same)

pub wish-none : (w v : WorldState) (call : Call) → w.master.stream ≡ None → v ≡ skip w → Wishes w call w.master.stream v
wish-none w v call none h = subst (λ (o : Option (List ℕ)). Wishes w call o v) (sym none) h

-- a SUBSCRIBE that the session sends does not change its state
pub subscribe-said : (s : Held) (known : Option Id) (info : FrameworkInfo) → after s (Said (subscribe_call known info)) ≡ s
subscribe-said s known info = λ i. record { framework = s.framework; connected = s.connected; hand = filter-all s.hand i; owed = filter-all s.owed i }

module _ {T E : Type 0} where
  pub resubscribed-ok : (result : Result T E) (w v : WorldState) (s : Held) (call : Call) (info : FrameworkInfo) → info ≡ world_info → call ≡ subscribe_call w.session.framework info → Applied w.session call s
      → OnOk result (v ≡ resubscribing (record w { session = s }) (handled w.master call None)) → OnOk result (v ≡ resubscribing w (subscribe_answer w))
  resubscribed-ok (Ok t) w v s call info known is a h =
      let asked : call ≡ subscribe_call w.session.framework world_info = is ∙ ap (subscribe_call w.session.framework) known in
      let same : s ≡ w.session = a.next ∙ ap (λ (x : Call). after w.session (Said x)) asked ∙ subscribe-said w.session w.session.framework world_info in
      h ∙ (λ i. resubscribing (record w { session = same i }) (handled w.master (asked i) None))
  resubscribed-ok (Err x) w v s call info known is a h = tt
