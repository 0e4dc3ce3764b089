-- The effect of texts on a session.
use Rattle.std.specs.Prelude.{◌≡◌, ◌⊎◌, ℕ, ◌+◌, List, slice_get, Option, None, Some, option_map}
use Rattle.mes_model.specs.declared.framework_info.FrameworkInfo.{FrameworkInfo}
use Rattle.mes_model.specs.Frameworks.{framework_info}
use Rattle.mes_model.specs.Id.{Id}
use Rattle.mes_model.specs.OwedKey.{OwedKey}
use Rattle.mes_msg.specs.Acknowledge.{Acknowledge}
use Rattle.mes_msg.specs.Call.{Call}
use Rattle.mes_msg.specs.Calls.{call}
use Rattle.mes_msg.specs.Event.{Event}
use Rattle.mes_msg.specs.Events.{event}
use Rattle.mes_msg.specs.Texts.{IsTextOf}
use Rattle.mes_msg.specs.declared.entry.Entry.{Entry}
use Rattle.mes_msg.specs.declared.entry.Entry.TheVariants.{Heard, Said}
use Rattle.mes_session.specs.History.{NeedsMemory, after}
use Rattle.mes_session_calls.specs.Made.{subscribe_call}
use Rattle.mes_session_state.specs.Calls.{acknowledge_call}
use Rattle.mes_session_state.specs.Held.{Held}
use Rattle.mes_session_state.specs.Refusals.{Answers}
use Rattle.mes_session_state.specs.declared.refusal.Refusal.{Refusal}
use Rattle.mes_session_state.specs.declared.refusal.Refusal.TheVariants.{NoMemory, NotSubscribed as Unsubscribed}
use Rattle.mes_stream.specs.Stream.{saturated}
use Rattle.mes_stream.specs.declared.fault.Fault.TheVariants as fault
use Rattle.mesosev_session.specs.Texts.{IsRoomy, IsUnreadable, IsUnreadCall, IsUnwritten}
use Rattle.mesosev_session.specs.declared.text_refusal.TextRefusal.{TextRefusal}
use Rattle.mesosev_session.specs.declared.text_refusal.TextRefusal.TheVariants.{Fault, Refused, Unfit, NoRoom, Absent}
use Rattle.mesosev_session.specs.declared.text_session.TextSession.{TextSession}

-- the session has the state after one more entry, and counts that entry
pub record Advances (old : TextSession) (entry : Entry) (new : TextSession) : Type 0 where
  pub session : new.session ≡ after old.session entry
  pub entries : new.entries ≡ saturated (old.entries + 1)

-- ---- events

-- the bytes w are a text of an event, which was applied
abbrev pub IsHeard : TextSession → List ℕ → TextSession → Type 0
IsHeard old w new = (e : Event) × IsTextOf event w e × Advances old (Heard e) new

-- the bytes w are no event, or an allocation failed for the event
abbrev pub NotHeard : List ℕ → TextRefusal → Type 0
NotHeard w why = IsUnreadable event w why ⊎ ((e : Event) × IsTextOf event w e × NeedsMemory e × (why ≡ Refused NoMemory))

-- ---- calls

-- the bytes w are a text of a call that is allowed in the state `held`, and whose canonical text is
-- `text`
pub record IsAllowed (held : Held) (w : List ℕ) (most : ℕ) (c : Call) (text : List ℕ) : Type 0 where
  pub is : IsTextOf call w c
  pub roomy : IsRoomy call c most text
  pub allowed : Answers held c None

abbrev pub IsChecked : Held → List ℕ → ℕ → List ℕ → Type 0
IsChecked held w most text = (c : Call) × IsAllowed held w most c text

-- like `IsChecked`, and the call was applied
abbrev pub IsSaid : TextSession → List ℕ → ℕ → List ℕ → TextSession → Type 0
IsSaid old w most text new = (c : Call) × IsAllowed old.session w most c text × Advances old (Said c) new

-- the call is refused for its first reason
pub record IsRefusedText (held : Held) (w : List ℕ) (most : ℕ) (why : TextRefusal) : Type 0 where
  pub c : Call
  pub text : List ℕ
  pub refusal : Refusal
  pub is : IsTextOf call w c
  pub roomy : IsRoomy call c most text
  pub answers : Answers held c (Some refusal)
  pub reported : why ≡ Refused refusal

-- the bytes w are no call, or a call without a canonical text of at most `most` bytes, or a call that
-- is refused in the state `held`
abbrev pub NotSaid : Held → List ℕ → ℕ → TextRefusal → Type 0
NotSaid held w most why = IsUnreadCall w most why ⊎ IsRefusedText held w most why

-- the bytes w are a text of a `FrameworkInfo`, whose SUBSCRIBE was made and applied
abbrev pub IsSubscribed : TextSession → List ℕ → ℕ → List ℕ → TextSession → Type 0
IsSubscribed old w most text new =
    (info : FrameworkInfo) × IsTextOf framework_info w info × IsRoomy call (subscribe_call old.session.framework info) most text
    × Advances old (Said (subscribe_call old.session.framework info)) new

-- the bytes w are no `FrameworkInfo`, or its SUBSCRIBE has no such canonical text
abbrev pub NotSubscribed : Held → List ℕ → ℕ → TextRefusal → Type 0
NotSubscribed held w most why =
    IsUnreadable framework_info w why
    ⊎ ((info : FrameworkInfo) × IsTextOf framework_info w info
    × (IsUnwritten call (subscribe_call held.framework info) most why ⊎ (why ≡ Refused NoMemory)))

-- ---- acknowledgements

-- the call is the ACKNOWLEDGE of the update at the index
abbrev pub IsAcknowledgeAt : Held → ℕ → Call → Type 0
IsAcknowledgeAt held index c =
    (framework : Id) × (key : OwedKey) × (held.framework ≡ Some framework) × (slice_get held.owed index ≡ Some key) × (c ≡ acknowledge_call framework key)

-- there is no such update; or there is, but no framework; or an allocation failed
abbrev pub NoAcknowledgeAt : Held → ℕ → TextRefusal → Type 0
NoAcknowledgeAt held index (Fault why) = why ≡ fault.NoMemory
NoAcknowledgeAt held index (Refused refusal) =
    (key : OwedKey) × (slice_get held.owed index ≡ Some key) × (held.framework ≡ None) × (refusal ≡ Unsubscribed)
NoAcknowledgeAt held index Unfit = ⊥
NoAcknowledgeAt held index (NoRoom size) = ⊥
NoAcknowledgeAt held index Absent = slice_get held.owed index ≡ None

-- that call is allowed, its canonical text is `text`, and it was applied
abbrev pub IsAcknowledged : TextSession → ℕ → ℕ → List ℕ → TextSession → Type 0
IsAcknowledged old index most text new =
    (c : Call) × IsAcknowledgeAt old.session index c × IsRoomy call c most text × Answers old.session c None × Advances old (Said c) new

-- there is no such call; or it has no such canonical text; or it is refused
abbrev pub NotAcknowledged : Held → ℕ → ℕ → TextRefusal → Type 0
NotAcknowledged held index most why =
    NoAcknowledgeAt held index why
    ⊎ ((c : Call) × IsAcknowledgeAt held index c × (IsUnwritten call c most why ⊎ ((refusal : Refusal) × Answers held c (Some refusal) × (why ≡ Refused refusal))))

-- ---- the state

-- the body of the ACKNOWLEDGE of an update
abbrev pub acknowledge_of : OwedKey → Acknowledge
acknowledge_of key = record { agent_id = key.agent; task_id = key.task; uuid = key.uuid }

abbrev pub owed_body : Held → ℕ → Option Acknowledge
owed_body held index = option_map acknowledge_of (slice_get held.owed index)
