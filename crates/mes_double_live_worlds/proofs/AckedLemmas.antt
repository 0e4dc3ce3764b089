-- Acknowledged updates were received by the session.
use Rattle.std.proofs.Common.{◌≡◌, ◌∙◌, inl, inr, Bool, true, false, ◌||◌, if◌then◌else◌, List, [], ◌∷◌, Option, Some, None, refl, sym, ap}
use Rattle.std.specs.List.{list_any}
use Rattle.std.specs.Prelude.{is_some}
use Rattle.std.specs.Option.{option_to_list}
use Rattle.mes_model.specs.OwedKey.{OwedKey}
use Rattle.mes_model.specs.Owed.{owed_key_of}
use Rattle.mes_msg.specs.Event.{Event}
use Rattle.mes_msg.specs.Event.TheVariants as event
use Rattle.mes_msg.specs.declared.entry.Entry.TheVariants.{Heard}
use Rattle.mes_session_state.specs.Held.{is_owed}
use Rattle.mes_session.specs.History.{owed_by}
use Rattle.mes_double_master.specs.Masters.{MasterState}
use Rattle.mes_double.specs.Courses.{Course}
use Rattle.mes_double.specs.Promises as course
use Rattle.mes_double_live_worlds.specs.LiveWorlds.{LiveWorld}
use Rattle.mes_double_live_worlds.specs.Shows.{AckedWereHeard, IsOf, Shows, is_noted, noted}
use Rattle.mes_double_live_worlds.proofs.MasterLemmas.{idle, marked}

owes-none : (key : OwedKey) (owes : Option OwedKey) → is_some owes ≡ false → is_owed key (option_to_list owes) ≡ false
owes-none key None off = refl
owes-none key (Some other) off = absurd (cc)

-- an event that is not noted has no such key
idle-owes : (key : OwedKey) (e : Event) → is_noted e ≡ false → is_owed key (owed_by (Heard e)) ≡ false
idle-owes key (event.Update body) off = owes-none key (owed_key_of body.status) off
idle-owes key (event.Subscribed body) off = refl
idle-owes key (event.Offers list) off = refl
idle-owes key (event.Rescind body) off = refl
idle-owes key (event.Message body) off = refl
idle-owes key (event.Failure body) off = refl
idle-owes key (event.Error body) off = refl
idle-owes key event.Heartbeat off = refl
idle-owes key (event.Other name) off = refl

abbrev has-key : OwedKey → List Event → Bool
has-key key events = list_any (λ (e : Event). is_owed key (owed_by (Heard e))) events

noted-by : (key : OwedKey) (e : Event) (events : List Event) (b : Bool) → is_noted e ≡ b → has-key key (noted events) ≡ has-key key events
    → has-key key (noted (e ∷ events)) ≡ has-key key (e ∷ events)
noted-by key e events true on same = ap (has-key key) (marked e events on) ∙ ap (λ (b : Bool). is_owed key (owed_by (Heard e)) || b) same
noted-by key e events false off same =
    ap (has-key key) (idle e events off) ∙ same ∙ sym (ap (λ (b : Bool). b || has-key key events) (idle-owes key e off))

noted-keys : (key : OwedKey) (events : List Event) → has-key key (noted events) ≡ has-key key events
noted-keys key [] = refl
noted-keys key (e ∷ events) = noted-by key e events (is_noted e) refl (noted-keys key events)

acked-by : (m : MasterState) (on : Bool) → (if on then record m { stream = None; outstanding = [] } else m).acked ≡ m.acked
acked-by m true = refl
acked-by m false = refl

acked-same : (m l : MasterState) → IsOf m l → l.acked ≡ m.acked
acked-same m l (inl same) = ap (λ (x : MasterState). x.acked) same
acked-same m l (inr broke) = ap (λ (x : MasterState). x.acked) broke ∙ acked-by m (is_some m.stream)

-- what is proved of the course holds of what it shows
pub acked-shown : (c : Course) (w : LiveWorld) → Shows c w → course.AckedWereHeard c → AckedWereHeard w
acked-shown c w shows acked key is =
    let there : is_owed key c.world.master.acked ≡ true = ap (λ (l : List OwedKey). is_owed key l) (sym (acked-same c.world.master w.live.master shows.master)) ∙ is in
    sym (noted-keys key w.heard) ∙ ap (has-key key) shows.heard ∙ noted-keys key c.heard ∙ acked key there
