-- The state of a framework after a history of events and calls (scheduler.proto, `Event`, `Call`).
use Rattle.std.specs.Prelude.{◌≡◌, ◌<◌, ℕ, Bool, true, false, not, if◌then◌else◌, fold, filter, filter_map, reverse, take, slice_get, List, [], ◌∷◌, ◌++◌, length, Option, Some, None}
use Rattle.std.specs.List.{list_any}
use Rattle.std.specs.Option.{option_or, option_to_list}
use Rattle.std.specs.Str.{bytes_eq}
use Rattle.mes_model.specs.Id.{Id}
use Rattle.mes_model.specs.Offer.{Offer}
use Rattle.mes_model.specs.OwedKey.{OwedKey}
use Rattle.mes_model.specs.Owed.{owed_key_of, Owes}
use Rattle.mes_msg.specs.Call.{Call}
use Rattle.mes_msg.specs.declared.entry.Entry.{Entry}
use Rattle.mes_msg.specs.declared.entry.Entry.TheVariants.{Heard, Said, Broken}
use Rattle.mes_msg.specs.Event.{Event}
use Rattle.mes_msg.specs.Event.TheVariants as heard
use Rattle.mes_session_state.specs.Keeping.{put}
use Rattle.mes_session_state.specs.Held.{Held, name_of, same_key}
use Rattle.mes_session_state.specs.Calls.{named_by, acknowledged_by}
use Rattle.mes_session_state.specs.declared.refusal.Refusal.{Refusal}
use Rattle.mes_session_state.specs.declared.refusal.Refusal.TheVariants.{NoMemory}
use Rattle.mes_session_state.specs.Refusals.{as_reported, IsRefused}
use Rattle.mes_session.specs.Kept.{after_last, IsKept, IsLeftBy}

-- ---- the framework, and whether the stream is connected

-- the framework that a SUBSCRIBED names; other entries name none
abbrev pub subscribed_by : Entry → Option Id
subscribed_by (Heard (heard.Subscribed s)) = Some s.framework_id
subscribed_by _ = None

abbrev pub subscribes : Entry → Bool
subscribes (Heard (heard.Subscribed s)) = true
subscribes _ = false

abbrev pub breaks : Entry → Bool
breaks Broken = true
breaks _ = false

-- the framework of the last SUBSCRIBED in the history
abbrev pub framework_after : List Entry → Option Id
framework_after h = slice_get (filter_map subscribed_by (reverse h)) 0

-- true if and only if a SUBSCRIBED was received since the stream was last disconnected
abbrev pub connected_after : List Entry → Bool
connected_after h = list_any subscribes (after_last breaks h)

-- ---- outstanding offers

-- the offers that an OFFERS brings; other entries bring none
abbrev pub offers_of : Entry → List Offer
offers_of (Heard (heard.Offers offers)) = offers
offers_of _ = []

-- RESCIND, ACCEPT and DECLINE remove the offers they name; SUBSCRIBED and a disconnect remove all
abbrev pub takes_offer : List ℕ → Entry → Bool
takes_offer name (Heard (heard.Subscribed s)) = true
takes_offer name (Heard (heard.Rescind r)) = bytes_eq r.offer_id.value name
takes_offer name (Said call) = list_any (λ (d : Id). bytes_eq d.value name) (named_by call)
takes_offer name Broken = true
takes_offer _ _ = false

abbrev pub IsHand : List Entry → List Offer → Type 0
IsHand h hand = IsKept bytes_eq name_of offers_of takes_offer h hand

-- ---- unacknowledged updates

-- the key that an UPDATE adds, if its status requires an acknowledgement
abbrev pub owed_by : Entry → List OwedKey
owed_by (Heard (heard.Update u)) = option_to_list (owed_key_of u.status)
owed_by _ = []

-- only an ACKNOWLEDGE removes a key: the one that it names
abbrev pub is_key : OwedKey → Option OwedKey → Bool
is_key key None = false
is_key key (Some k) = same_key k key

abbrev pub acknowledges : OwedKey → Entry → Bool
acknowledges key (Said call) = is_key key (acknowledged_by call)
acknowledges _ _ = false

abbrev pub IsOwed : List Entry → List OwedKey → Type 0
IsOwed h owed = IsKept same_key (λ (key : OwedKey). key) owed_by acknowledges h owed

-- ---- the state

-- s is the state of a framework after the history h
pub record Represents (h : List Entry) (s : Held) : Type 0 where
  pub framework : s.framework ≡ framework_after h
  pub connected : s.connected ≡ connected_after h
  pub hand : IsHand h s.hand
  pub owed : IsOwed h s.owed

-- the state before any entry
abbrev pub at_first : Held
at_first = record { framework = None; connected = false; hand = []; owed = [] }

-- the state after one more entry: the entry first removes items and then adds its own
abbrev pub after : Held → Entry → Held
after s e = record {
  framework = option_or (subscribed_by e) s.framework;
  connected = if breaks e then false else (if subscribes e then true else s.connected);
  hand = fold (put bytes_eq name_of) (filter (λ o. not (takes_offer (name_of o) e)) s.hand) (offers_of e);
  owed = fold (put same_key (λ (key : OwedKey). key)) (filter (λ key. not (acknowledges key e)) s.owed) (owed_by e);
}

-- if a history leads to the state s, that history and then the entry e lead to the state t
abbrev pub StandsNext : Entry → Held → Held → Type 0
StandsNext e s t = (h : List Entry) → Represents h s → Represents (h ++ e ∷ []) t

-- an OFFERS at index i of the history brings the offer, and no later entry removes that offer
abbrev pub IsOfferedBy : List Entry → List ℕ → ℕ → Type 0
IsOfferedBy h name i = IsLeftBy bytes_eq name_of offers_of takes_offer h name i

-- an UPDATE at index i of the history adds the key, and no later ACKNOWLEDGE removes that key
abbrev pub IsOwedBy : List Entry → OwedKey → ℕ → Type 0
IsOwedBy h key i = IsLeftBy same_key (λ (k : OwedKey). k) owed_by acknowledges h key i

-- ---- refusals

-- `call` is refused for `fault` in the state after the history h
abbrev pub RefusedAfter : List Entry → Call → Refusal → Type 0
RefusedAfter h call fault = (s : Held) × Represents h s × IsRefused s call fault

-- no call of the history is refused after the entries before it
abbrev pub IsLegal : List Entry → Type 0
IsLegal h = (i : ℕ) (call : Call) (fault : Refusal) → slice_get h i ≡ Some (Said call) → RefusedAfter (take i h) call fault → ⊥

-- the event is one that allocates: SUBSCRIBED, an OFFERS that is not empty, or an UPDATE that
-- requires an acknowledgement
abbrev pub NeedsMemory : Event → Type 0
NeedsMemory (heard.Subscribed s) = Unit {0}
NeedsMemory (heard.Offers offers) = 0 < length offers
NeedsMemory (heard.Update u) = Owes u.status
NeedsMemory _ = ⊥

-- the entry after the history h is refused: it is a call with a fault, or an event for which an
-- allocation failed
abbrev pub IsStopped : List Entry → Entry → Refusal → Type 0
IsStopped h (Heard event) reported = (reported ≡ NoMemory) × NeedsMemory event
IsStopped h (Said call) reported = (fault : Refusal) × (reported ≡ as_reported fault) × RefusedAfter h call fault
IsStopped h Broken reported = ⊥

-- the entries before index i are legal, and the entry at i is refused
pub record StopsAt (h : List Entry) (i : ℕ) (reported : Refusal) : Type 0 where
  pub front : IsLegal (take i h)
  pub entry : Entry
  pub is : slice_get h i ≡ Some entry
  pub stopped : IsStopped (take i h) entry reported
