-- The body of a stream that is being written. Times are in milliseconds.
use Rattle.std.specs.Prelude.{◌≡◌, ◌≢◌, ◌⊎◌, ℕ, ◌+◌, ◌-◌, ◌*◌, ◌^◌, Bool, true, false, List, [], ◌∷◌, ◌++◌, drop, take, min, max, Option, None, Some, codes, if◌then◌else◌, nat_le}
use Rattle.mes_frame.specs.Frames.{IsFrames}
use Rattle.mes_double_faults.specs.Plans.{Plan, event_fault}
use Rattle.mes_double_faults.specs.declared.fault.Fault.{Fault}
use Rattle.mes_double_faults.specs.declared.fault.Fault.TheVariants.{Event}
use Rattle.mes_double_faults.specs.declared.fault.EventFault.{EventFault}
use Rattle.mes_double_faults.specs.declared.fault.EventFault.TheVariants.{Lost, Repeated, Cut, Late, Muted as GoesMute}
use Rattle.mes_double_live.specs.declared.stream_body.Delivery.{Delivery}
use Rattle.mes_double_live.specs.declared.stream_body.Delivery.TheVariants.{Flowing, Muted, Broken}

pub record BodyState : Type 0 where
  -- the largest chunk in bytes
  pub most : ℕ
  -- the bytes that may be written, and are not
  pub pending : List ℕ
  -- the bytes after them, which may not be written before a time
  pub held : List ℕ
  -- the time until which further bytes are held
  pub until : Option ℕ
  -- what happens to the next event, as standard input demands
  pub fault : Option EventFault
  -- whether events are sent
  pub delivery : Delivery
  -- the planned faults of the run
  pub plan : Plan
  -- the number of events of the run
  pub count : ℕ
  -- the planned faults that happened
  pub happened : List Fault

abbrev pub empty : ℕ → Plan → BodyState
empty most plan =
    record { most = most; pending = []; held = []; until = None; fault = None; delivery = Flowing; plan = plan; count = 0; happened = [] }

-- a last-chunk without trailers (RFC 9112 section 7.1)
abbrev pub last_chunk : List ℕ
last_chunk = 48 ∷ 13 ∷ 10 ∷ 13 ∷ 10 ∷ []

-- the body after the first `count` pending bytes were written
abbrev pub written : ℕ → BodyState → BodyState
written count body = record body { pending = drop count body.pending }

-- the body of the next stream
abbrev pub cleared : BodyState → BodyState
cleared body = record body { pending = []; held = []; until = None; fault = None; delivery = Flowing }

-- ---- late events

-- the time this number of seconds later; it stops at 2^64 - 1
abbrev pub due : ℕ → ℕ → ℕ
due now seconds = min (now + seconds * 1000) (2 ^ 64 - 1)

abbrev pub later : Option ℕ → ℕ → ℕ
later None time = time
later (Some until) time = max until time

-- further bytes are held until this time at least
abbrev pub held_back : ℕ → BodyState → BodyState
held_back time body = record body { until = Some (later body.until time) }

abbrev pub released_by : Option ℕ → ℕ → BodyState → BodyState
released_by None now body = body
released_by (Some until) now body =
    if nat_le until now then record body { pending = body.pending ++ body.held; held = []; until = None } else body

-- the bytes that are held may be written, if their time has come
abbrev pub released : ℕ → BodyState → BodyState
released now body = released_by body.until now body

-- ---- whether events are sent

abbrev pub flows : Delivery → Bool
flows Flowing = true
flows Muted = false
flows Broken = false

abbrev pub after_mute : Delivery → Delivery
after_mute Flowing = Muted
after_mute Muted = Muted
after_mute Broken = Broken

abbrev pub after_speak : Delivery → Delivery
after_speak Flowing = Flowing
after_speak Muted = Flowing
after_speak Broken = Broken

abbrev pub muted : BodyState → BodyState
muted body = record body { delivery = after_mute body.delivery }

abbrev pub unmuted : BodyState → BodyState
unmuted body = record body { delivery = after_speak body.delivery }

abbrev pub is_empty : List ℕ → Bool
is_empty [] = true
is_empty (byte ∷ rest) = false

-- the stream is broken, and all bytes before are written
abbrev pub breaks_with : Delivery → List ℕ → Bool
breaks_with Broken unwritten = is_empty unwritten
breaks_with Flowing unwritten = false
breaks_with Muted unwritten = false

abbrev pub breaks_now : BodyState → Bool
breaks_now body = breaks_with body.delivery (body.pending ++ body.held)

-- ---- what events of other names demand

-- one of the five names
abbrev pub IsDemand : List ℕ → BodyState → BodyState → Type 0
IsDemand name old new =
    ((name ≡ codes "LOSE") × (new ≡ record old { fault = Some Lost }))
    ⊎ ((name ≡ codes "TWICE") × (new ≡ record old { fault = Some Repeated }))
    ⊎ ((name ≡ codes "MUTE") × (new ≡ muted old))
    ⊎ ((name ≡ codes "SPEAK") × (new ≡ unmuted old))
    ⊎ ((name ≡ codes "BREAK") × (new ≡ record old { delivery = Broken }))

-- what the name demands was done; or the name demands nothing of the stream
abbrev pub Obeys : List ℕ → BodyState → BodyState → Bool → Type 0
Obeys name old new true = IsDemand name old new
Obeys name old new false =
    (name ≢ codes "LOSE") × (name ≢ codes "TWICE") × (name ≢ codes "MUTE") × (name ≢ codes "SPEAK") × (name ≢ codes "BREAK") × (new ≡ old)

-- ---- events

-- chunks are appended to the bytes that may be written, or to those that are held
abbrev pub appended_by : Option ℕ → List ℕ → BodyState → BodyState
appended_by None chunks body = record body { pending = body.pending ++ chunks }
appended_by (Some until) chunks body = record body { held = body.held ++ chunks }

abbrev pub appended : List ℕ → BodyState → BodyState
appended chunks body = appended_by body.until chunks body

-- relates a body to the body after chunks of these bytes were appended, without a last-chunk
pub record Appends (old : BodyState) (bytes : List ℕ) (new : BodyState) : Type 0 where
  pub chunks : List ℕ
  pub are : IsFrames bytes old.most (chunks ++ last_chunk)
  pub new_is : new ≡ appended chunks old

-- the number of the next event; it stops at 2^32 - 1
abbrev pub next_number : BodyState → ℕ
next_number body = min (body.count + 1) (2 ^ 32 - 1)

-- what standard input demands of an event; or else the planned fault, which is noted
abbrev pub fault_by : Option EventFault → Option EventFault → Option EventFault
fault_by (Some demanded) planned = Some demanded
fault_by None planned = planned

abbrev pub noted_by : Option EventFault → Option EventFault → ℕ → List Fault → List Fault
noted_by (Some demanded) planned number happened = happened
noted_by None None number happened = happened
noted_by None (Some planned) number happened = happened ++ Event number planned ∷ []

-- the fault of the next event
abbrev pub next_fault : BodyState → Option EventFault
next_fault body = fault_by body.fault (event_fault body.plan (next_number body))

-- the body once the next event was counted
abbrev pub counted : BodyState → BodyState
counted body = record body {
  fault = None;
  count = next_number body;
  happened = noted_by body.fault (event_fault body.plan (next_number body)) (next_number body) body.happened;
}

-- The record was appended once, or not at all, or twice; or its first bytes, after which the stream
-- breaks; or it is held for this number of seconds; or the stream is muted after it.
abbrev pub SendsBy : Option EventFault → ℕ → BodyState → List ℕ → BodyState → Type 0
SendsBy None now old bytes new = Appends old bytes new
SendsBy (Some Lost) now old bytes new = new ≡ old
SendsBy (Some Repeated) now old bytes new = (once : BodyState) × Appends old bytes once × Appends once bytes new
SendsBy (Some (Cut most)) now old bytes new =
    (part : BodyState) × Appends old (take most bytes) part × (new ≡ record part { delivery = Broken })
SendsBy (Some (Late seconds)) now old bytes new = Appends (held_back (due now seconds) old) bytes new
SendsBy (Some GoesMute) now old bytes new = (sent : BodyState) × Appends old bytes sent × (new ≡ muted sent)

-- The event was counted, and its record appended by its fault. Or the event is lost, because the
-- stream is muted or broken.
abbrev pub SendsIf : Delivery → ℕ → BodyState → List ℕ → BodyState → Type 0
SendsIf Flowing now old bytes new = SendsBy (next_fault old) now (counted old) bytes new
SendsIf Muted now old bytes new = new ≡ old
SendsIf Broken now old bytes new = new ≡ old

abbrev pub Sends : ℕ → BodyState → List ℕ → BodyState → Type 0
Sends now old bytes new = SendsIf old.delivery now old bytes new

-- The record was appended. Or it is lost, because the stream is muted or broken.
abbrev pub BeatsIf : Delivery → BodyState → List ℕ → BodyState → Type 0
BeatsIf Flowing old bytes new = Appends old bytes new
BeatsIf Muted old bytes new = new ≡ old
BeatsIf Broken old bytes new = new ≡ old

abbrev pub Beats : BodyState → List ℕ → BodyState → Type 0
Beats old bytes new = BeatsIf old.delivery old bytes new
