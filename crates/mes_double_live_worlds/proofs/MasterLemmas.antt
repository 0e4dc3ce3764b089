-- The test master of a live test master and that of a world: what a broken stream changes, and how both
-- handle calls.
use Rattle.std.proofs.Common.{◌≡◌, ◌∙◌, inl, inr, ℕ, Bool, true, false, ◌==◌, ◌||◌, not, if◌then◌else◌, map, List, [], ◌∷◌, Option, Some, None, Ok, Err, refl, sym, ap, subst}
use Rattle.std.specs.Prelude.{is_some}
use Rattle.std.specs.List.{AllByRecursion}
use Rattle.std.specs.Option.{option_or}
use Rattle.mes_model.specs.Id.{Id}
use Rattle.mes_model.specs.Offer.{Offer}
use Rattle.mes_model.specs.OwedKey.{OwedKey}
use Rattle.mes_model.specs.Owed.{key_by, owed_key_of}
use Rattle.mes_model.specs.TaskStatus.{TaskStatus}
use Rattle.mes_msg.specs.Call.{Call}
use Rattle.mes_msg.specs.Call.TheVariants as of
use Rattle.mes_msg.specs.Event.{Event}
use Rattle.mes_session_fit.specs.Fits.{Fits}
use Rattle.mes_session_state.specs.Calls.{framework_of}
use Rattle.mes_double_master.specs.Agents.{are_there}
use Rattle.mes_double_master.specs.Masters.{MasterState, MasterAnswer, agrees, asked_for, carried_out, handled, has_update, in_stream, is_named, is_subscribe, is_there, plain, reconciled_event, stream_broke, subscribed, subscribed_event}
use Rattle.mes_double_master.specs.Sending.{Sends, is_duplicate, offer_ids, offers_sent, on_stream, rescind_sent, resend_sent, resent, update_sent, updated}
use Rattle.mes_double_master.specs.declared.refusal.MasterRefusal.TheVariants.{NoStream}
use Rattle.mes_double_master.proofs.FitLemmas.{fits-nothing}
use Rattle.mes_double_live.specs.Moving.{IsWhole}
use Rattle.mes_double_live.specs.Steps.{Handles, IsReply}
use Rattle.mes_double.specs.Worlds.{is_done}
use Rattle.mes_double_live_worlds.specs.Shows.{IsOf, is_noted, noted}

-- ---- a broken stream

broke-by : (m : MasterState) (on : Bool) → is_some m.stream ≡ on → (stream_broke m).stream ≡ None
broke-by m true e = ap (λ (b : Bool). (if b then record m { stream = None; outstanding = [] } else m).stream) e
broke-by m false e = ap (λ (b : Bool). (if b then record m { stream = None; outstanding = [] } else m).stream) e ∙ none m.stream e
  where
    none : (s : Option (List ℕ)) → is_some s ≡ false → s ≡ None
    none None e = refl
    none (Some id) e = absurd (cc)

pub broke-none : (m : MasterState) → (stream_broke m).stream ≡ None
broke-none m = broke-by m (is_some m.stream) refl

-- the stream is disconnected once
pub broke-twice : (m : MasterState) → stream_broke (stream_broke m) ≡ stream_broke m
broke-twice m =
    ap (λ (s : Option (List ℕ)). if is_some s then record (stream_broke m) { stream = None; outstanding = [] } else stream_broke m) (broke-none m)

kept-by : {X : Type 0} (get : MasterState → X) (m : MasterState) (b : Bool) → get (record m { stream = None; outstanding = [] }) ≡ get m
    → get (if b then record m { stream = None; outstanding = [] } else m) ≡ get m
kept-by get m true e = e
kept-by get m false e = refl

pub broke-down : (m : MasterState) → (stream_broke m).down ≡ m.down
broke-down m = kept-by (λ (x : MasterState). x.down) m (is_some m.stream) refl

pub of-same : (m l n : MasterState) → IsOf m l → n ≡ l → IsOf m n
of-same m l n is e = subst (IsOf m) (sym e) is

pub of-broke : (m l n : MasterState) → IsOf m l → n ≡ stream_broke l → IsOf m n
of-broke m l n is e = elim is [
  | inl same ↦ inr (e ∙ ap stream_broke same)
  | inr broke ↦ inr (e ∙ ap stream_broke broke ∙ broke-twice m)
]

pub of-down : (m l : MasterState) → IsOf m l → l.down ≡ m.down
of-down m l is = elim is [
  | inl same ↦ ap (λ (x : MasterState). x.down) same
  | inr broke ↦ ap (λ (x : MasterState). x.down) broke ∙ broke-down m
]

-- a live test master with a stream has that of the world
pub of-stream : (m l : MasterState) → IsOf m l → is_some l.stream ≡ true → l ≡ m
of-stream m l is on = elim is [
  | inl same ↦ same
  | inr broke ↦ absurd (let off : false ≡ true = sym (ap (λ (x : MasterState). is_some x.stream) broke ∙ ap is_some (broke-none m)) ∙ on in cc)
]

-- ---- events that the test master sends

on-by : (on : Bool) (sends : Sends) (sent : Event × MasterState) → (if on then sends else Err NoStream) ≡ Ok sent → on ≡ true
on-by true sends sent e = refl
on-by false sends sent e = absurd (cc)

-- an event is sent only on a stream
pub sent-on : (m : MasterState) (sends : Sends) (sent : Event × MasterState) → on_stream m sends ≡ Ok sent → is_some m.stream ≡ true
sent-on m sends sent e = on-by (is_some m.stream) sends sent e

-- the stream stays, and a TEARDOWN is none of this
pub record Stays (m n : MasterState) : Type 0 where
  pub stream : n.stream ≡ m.stream
  pub down : n.down ≡ m.down

abbrev pub KeepsStream : MasterState → Sends → Type 0
KeepsStream m (Ok sent) = Stays m sent.1
KeepsStream m (Err why) = Unit {0}

keeps-if : (m : MasterState) (b : Bool) (one other : Sends) → KeepsStream m one → KeepsStream m other → KeepsStream m (if b then one else other)
keeps-if m true one other f g = f
keeps-if m false one other f g = g

pub keeps-offers : (m : MasterState) (list : List Offer) → KeepsStream m (offers_sent m list)
keeps-offers m list =
    keeps-if m (is_some m.stream) _ _ (keeps-if m (is_duplicate m.offered (offer_ids list)) _ _ tt (record { stream = refl; down = refl })) tt

pub keeps-rescind : (m : MasterState) (name : List ℕ) → KeepsStream m (rescind_sent m name)
keeps-rescind m name =
    keeps-if m (is_some m.stream) _ _ (keeps-if m (is_there m.outstanding (record { value = name })) _ _ (record { stream = refl; down = refl }) tt) tt

updated-keeps : (m : MasterState) (status : TaskStatus) (key : Option OwedKey) → KeepsStream m (updated m status key)
updated-keeps m status None = record { stream = refl; down = refl }
updated-keeps m status (Some key) = keeps-if m (has_update m.owing key) _ _ tt (record { stream = refl; down = refl })

pub keeps-update : (m : MasterState) (status : TaskStatus) → KeepsStream m (update_sent m status)
keeps-update m status = keeps-if m (is_some m.stream) _ _ (updated-keeps m status (owed_key_of status)) tt

resent-keeps : (m : MasterState) (found : Option (OwedKey × TaskStatus)) → KeepsStream m (resent m found)
resent-keeps m None = tt
resent-keeps m (Some entry) = record { stream = refl; down = refl }

pub keeps-resend : (m : MasterState) (index : ℕ) → KeepsStream m (resend_sent m index)
keeps-resend m index = keeps-if m (is_some m.stream) _ _ (resent-keeps m _) tt

pub keeps-sent : (m : MasterState) (sends : Sends) (sent : Event × MasterState) → sends ≡ Ok sent → KeepsStream m sends → Stays m sent.1
keeps-sent m sends sent e keeps = subst (KeepsStream m) e keeps

-- ---- calls other than SUBSCRIBE

-- what is known of a response to such a call
pub record Answer (m : MasterState) (answer : MasterAnswer) : Type 0 where
  pub events : noted answer.events ≡ []
  pub replies : AllByRecursion IsReply answer.events
  -- if it was not carried out, nothing changed
  pub undone : is_done answer.status ≡ false → answer.master ≡ m
  pub stays : answer.master.down ≡ false → Stays m answer.master

plain-answer : (m : MasterState) (status : ℕ) → Answer m (plain status m)
plain-answer m status = record { events = refl; replies = tt; undone = λ off. refl; stays = λ up. record { stream = refl; down = refl } }

needs-no-uuid : (task : Id) (agent : Option Id) → key_by task agent None ≡ None
needs-no-uuid task None = refl
needs-no-uuid task (Some agent) = refl

idle-by : (e : Event) (b : Bool) (events : List Event) → is_noted e ≡ b → b ≡ false → noted (e ∷ events) ≡ noted events
idle-by e b events is off = ap (λ (x : Bool). if x then e ∷ noted events else noted events) (is ∙ off)

-- an event that changes no session
pub idle : (e : Event) (events : List Event) → is_noted e ≡ false → noted (e ∷ events) ≡ noted events
idle e events off = idle-by e (is_noted e) events refl off

pub marked : (e : Event) (events : List Event) → is_noted e ≡ true → noted (e ∷ events) ≡ e ∷ noted events
marked e events on = ap (λ (x : Bool). if x then e ∷ noted events else noted events) on

reconciled-idle : (statuses : List TaskStatus) → noted (map reconciled_event statuses) ≡ []
reconciled-idle [] = refl
reconciled-idle (status ∷ statuses) =
    idle (reconciled_event status) (map reconciled_event statuses) (ap is_some (needs-no-uuid status.task_id status.agent_id)) ∙ reconciled-idle statuses

reconciled-replies : (statuses : List TaskStatus) → AllByRecursion IsReply (map reconciled_event statuses)
reconciled-replies [] = tt
reconciled-replies (status ∷ statuses) = (needs-no-uuid status.task_id status.agent_id, reconciled-replies statuses)

carried-answer : (m : MasterState) (call : Call) → is_subscribe call ≡ false → Answer m (carried_out m call)
carried-answer m (of.Subscribe framework body) other = absurd (cc)
carried-answer m (of.Accept framework body) other = record { events = refl; replies = tt; undone = λ off. absurd (cc); stays = λ up. record { stream = refl; down = refl } }
carried-answer m (of.Decline framework body) other = record { events = refl; replies = tt; undone = λ off. absurd (cc); stays = λ up. record { stream = refl; down = refl } }
carried-answer m (of.Acknowledge framework body) other = record { events = refl; replies = tt; undone = λ off. absurd (cc); stays = λ up. record { stream = refl; down = refl } }
carried-answer m (of.Reconcile framework body) other = record {
  events = reconciled-idle (asked_for m.latest body.tasks);
  replies = reconciled-replies (asked_for m.latest body.tasks);
  undone = λ off. refl;
  stays = λ up. record { stream = refl; down = refl };
}
carried-answer m (of.Teardown framework) other = record { events = refl; replies = tt; undone = λ off. absurd (cc); stays = λ up. absurd (cc) }
carried-answer m (of.Revive framework) other = plain-answer m 202
carried-answer m (of.Kill framework body) other = plain-answer m 202
carried-answer m (of.Suppress framework) other = plain-answer m 202
carried-answer m (of.Shutdown framework body) other = plain-answer m 202
carried-answer m (of.Message framework body) other = plain-answer m 202

answer-if : (m : MasterState) (b : Bool) (one other : MasterAnswer) → Answer m one → Answer m other → Answer m (if b then one else other)
answer-if m true one other f g = f
answer-if m false one other f g = g

stream-answer : (m : MasterState) (call : Call) (current given : Option (List ℕ)) → is_subscribe call ≡ false → Answer m (in_stream m call current given)
stream-answer m call None given other = plain-answer m 403
stream-answer m call (Some id) given other = answer-if m (is_named id given) _ _ (carried-answer m call other) (plain-answer m 400)

-- the response to a call other than SUBSCRIBE
other-is : (m : MasterState) (call : Call) (given : Option (List ℕ)) → is_subscribe call ≡ false
    → handled m call given ≡ (if m.down || not (agrees m.framework (framework_of call)) then plain 403 m else in_stream m call m.stream given)
other-is m call given other =
    ap (λ (b : Bool). if m.down || not (agrees m.framework (framework_of call)) then plain 403 m else (if b then subscribed m m.ids else in_stream m call m.stream given)) other

pub other-answer : (m : MasterState) (call : Call) (given : Option (List ℕ)) → is_subscribe call ≡ false → Answer m (handled m call given)
other-answer m call given other =
    subst (Answer m) (sym (other-is m call given other))
    (answer-if m (m.down || not (agrees m.framework (framework_of call))) _ _ (plain-answer m 403) (stream-answer m call m.stream given other))

-- without a stream it is refused
pub none-is : (m : MasterState) (call : Call) (given : Option (List ℕ)) → is_subscribe call ≡ false → m.stream ≡ None → handled m call given ≡ plain 403 m
none-is m call given other none =
    other-is m call given other
    ∙ ap (λ (s : Option (List ℕ)). if m.down || not (agrees m.framework (framework_of call)) then plain 403 m else in_stream m call s given) none
    ∙ both (m.down || not (agrees m.framework (framework_of call)))
  where
    both : (b : Bool) → (if b then plain 403 m else plain 403 m) ≡ plain 403 m
    both true = refl
    both false = refl

-- a call that launches nothing is handled as it is
pub whole-none : (m : MasterState) (call : Call) (given : Option (List ℕ)) (answer : MasterAnswer) → handled m call given ≡ answer → answer.took ≡ [] → answer.ran ≡ [] → IsWhole m call given
whole-none m call given answer is took ran =
    let none : (handled m call given).ran ≡ [] = ap (λ (a : MasterAnswer). a.ran) is ∙ ran in
    record {
      fits = subst (Fits (handled m call given).took) (sym none) (fits-nothing (handled m call given).took);
      there = ap (are_there (handled m call given).took) none;
    }

-- on a broken stream nothing is changed
pub handles-none : (l n : MasterState) (call : Call) (given : Option (List ℕ)) → is_subscribe call ≡ false → l.stream ≡ None → Handles call given l n → n ≡ l
handles-none l n call given other none by =
    let refused : handled l call given ≡ plain 403 l = none-is l call given other none in
    by.whole (whole-none l call given (plain 403 l) refused refl refl) ∙ ap (λ (a : MasterAnswer). a.master) refused

-- ---- SUBSCRIBE

-- the response to a SUBSCRIBE that names this framework, or none
abbrev pub resubscribed : MasterState → Option Id → MasterAnswer
resubscribed m framework = if m.down || not (agrees m.framework framework) then plain 403 m else subscribed m m.ids

-- the same events and the same new state, if it is carried out
pub record SameOpening (one other : MasterAnswer) : Type 0 where
  pub status : one.status ≡ other.status
  pub events : one.events ≡ other.events
  pub master : (other.status == 200) ≡ true → one.master ≡ other.master

opening-same : (a : MasterAnswer) → SameOpening a a
opening-same a = record { status = refl; events = refl; master = λ ok. refl }

ids-same : (m : MasterState) (ids : List (List ℕ)) → SameOpening (subscribed (record m { stream = None; outstanding = [] }) ids) (subscribed m ids)
ids-same m [] = record { status = refl; events = refl; master = λ ok. absurd (cc) }
ids-same m (id ∷ ids) = record { status = refl; events = refl; master = λ ok. refl }

refused-same : (m : MasterState) (refused : Bool)
    → SameOpening (if refused then plain 403 (record m { stream = None; outstanding = [] }) else subscribed (record m { stream = None; outstanding = [] }) m.ids)
    (if refused then plain 403 m else subscribed m m.ids)
refused-same m true = record { status = refl; events = refl; master = λ ok. absurd (cc) }
refused-same m false = ids-same m m.ids

broke-same : (m : MasterState) (framework : Option Id) (on : Bool)
    → SameOpening (resubscribed (if on then record m { stream = None; outstanding = [] } else m) framework) (resubscribed m framework)
broke-same m framework true = refused-same m (m.down || not (agrees m.framework framework))
broke-same m framework false = opening-same (resubscribed m framework)

-- a SUBSCRIBE opens the same stream, whether the one before was disconnected or not
pub same-opening : (m l : MasterState) (framework : Option Id) → IsOf m l → SameOpening (resubscribed l framework) (resubscribed m framework)
same-opening m l framework is = elim is [
  | inl same ↦ subst (λ (x : MasterState). SameOpening (resubscribed x framework) (resubscribed m framework)) (sym same) (opening-same (resubscribed m framework))
  | inr broke ↦ subst (λ (x : MasterState). SameOpening (resubscribed x framework) (resubscribed m framework)) (sym broke) (broke-same m framework (is_some m.stream))
]

-- what is known of the response
pub record Opening (m : MasterState) (answer : MasterAnswer) : Type 0 where
  pub took : answer.took ≡ []
  pub ran : answer.ran ≡ []
  pub undone : (answer.status == 200) ≡ false → answer.master ≡ m
  pub events : (answer.status == 200) ≡ true → answer.events ≡ subscribed_event m.framework m.interval ∷ []
  pub up : (answer.status == 200) ≡ true → answer.master.down ≡ false

ids-opening : (m : MasterState) (ids : List (List ℕ)) → m.down ≡ false → Opening m (subscribed m ids)
ids-opening m [] up = record { took = refl; ran = refl; undone = λ off. refl; events = λ ok. absurd (cc); up = λ ok. absurd (cc) }
ids-opening m (id ∷ ids) up = record { took = refl; ran = refl; undone = λ off. absurd (cc); events = λ ok. refl; up = λ ok. up }

opening-by : (m : MasterState) (refused : Bool) → (refused ≡ false → m.down ≡ false) → Opening m (if refused then plain 403 m else subscribed m m.ids)
opening-by m true up = record { took = refl; ran = refl; undone = λ off. refl; events = λ ok. absurd (cc); up = λ ok. absurd (cc) }
opening-by m false up = ids-opening m m.ids (up refl)

or-first : (a b : Bool) → (a || b) ≡ false → a ≡ false
or-first true b e = absurd (cc)
or-first false b e = refl

pub opening : (m : MasterState) (framework : Option Id) → Opening m (resubscribed m framework)
opening m framework = opening-by m (m.down || not (agrees m.framework framework)) (or-first _ _)

not-back : (b : Bool) → not b ≡ false → b ≡ true
not-back true e = refl
not-back false e = absurd (cc)

or-last : (a b : Bool) → (a || b) ≡ false → b ≡ false
or-last true b e = absurd (cc)
or-last false b e = e

or-none : (a b : Bool) → a ≡ false → b ≡ false → (a || b) ≡ false
or-none a b e f = ap (λ (x : Bool). x || b) e ∙ f

named-by : (m : MasterState) (one other : Option Id) (refused : Bool) → (m.down || not (agrees m.framework one)) ≡ refused → (agrees m.framework one ≡ true → agrees m.framework other ≡ true)
    → ((if refused then plain 403 m else subscribed m m.ids).status == 200) ≡ true → resubscribed m one ≡ resubscribed m other
named-by m one other true is also ok = absurd (cc)
named-by m one other false is also ok =
    let agrees_other : not (agrees m.framework other) ≡ false = ap not (also (not-back _ (or-last _ _ is))) in
    ap (λ (b : Bool). if b then plain 403 m else subscribed m m.ids) is
    ∙ sym (ap (λ (b : Bool). if b then plain 403 m else subscribed m m.ids) (or-none _ _ (or-first _ _ is) agrees_other))

-- what else the SUBSCRIBE may name
pub named-alike : (m : MasterState) (one other : Option Id) → (agrees m.framework one ≡ true → agrees m.framework other ≡ true) → ((resubscribed m one).status == 200) ≡ true
    → resubscribed m one ≡ resubscribed m other
named-alike m one other also ok = named-by m one other (m.down || not (agrees m.framework one)) refl also ok

-- a session that knows no framework may name any
pub known-agrees : (m : MasterState) (known named : Option Id) → agrees m.framework (option_or known named) ≡ true → agrees m.framework (option_or known None) ≡ true
known-agrees m None named e = refl
known-agrees m (Some id) named e = e
