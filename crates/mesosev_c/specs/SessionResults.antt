-- Results of a session in C: a status, and a text or a line in the caller's buffer.
use Rattle.std.specs.Prelude.{◌≡◌, ℕ, List, Result, Ok, Err}
use Rattle.std.specs.Global.{Vec}
use Rattle.mes_session.specs.Printed.{refusal_text}
use Rattle.mes_session.specs.Refusal.{Refusal}
use Rattle.mes_session_state.specs.declared.refusal.Refusal.TheVariants.{NotSubscribed, NamedTwice, NoSuchOffer, TwoAgents, WrongAgent, Exceeds, NotOwed, NoMemory}
use Rattle.mes_stream.specs.Lines.{fault_text}
use Rattle.mesosev_session.specs.declared.text_stop.TextStop.{TextStop}
use Rattle.mesosev_session.specs.declared.text_stop.TextStop.TheVariants as stop
use Rattle.mesosev_session.specs.declared.text_refusal.TextRefusal.{TextRefusal}
use Rattle.mesosev_session.specs.declared.text_refusal.TextRefusal.TheVariants.{Fault, Refused, Unfit, NoRoom, Absent}
use Rattle.mesosev_c.specs.CallTexts.{PutsText}
use Rattle.mesosev_c.specs.Numbers.{SUCCESS, NO_TEXT, NO_ROOM, ABSENT, number_of_fault}
pub use Rattle.mesosev_c.specs.CallTexts.{PutsText}

-- 200 and the number in the name of a refusal
abbrev pub number_of_refusal : Refusal → ℕ
number_of_refusal NotSubscribed = 201
number_of_refusal NamedTwice = 202
number_of_refusal (NoSuchOffer index) = 203
number_of_refusal TwoAgents = 204
number_of_refusal (WrongAgent task) = 205
number_of_refusal (Exceeds task resource) = 206
number_of_refusal NotOwed = 207
number_of_refusal NoMemory = 208

-- the status, size and buffer that report the reason; there are `entries` entries before a refused
-- one, and `used` is the offset of an error
abbrev pub PutsRefusal : TextRefusal → ℕ → ℕ → ℕ → List ℕ → List ℕ → ℕ → Type 0
PutsRefusal (Fault fault) entries used size before room status = (status ≡ number_of_fault fault) × PutsText (fault_text fault used) size before room
PutsRefusal (Refused refusal) entries used size before room status = (status ≡ number_of_refusal refusal) × PutsText (refusal_text refusal entries) size before room
PutsRefusal Unfit entries used size before room status = (status ≡ NO_TEXT) × (size ≡ 0) × (room ≡ before)
PutsRefusal (NoRoom needed) entries used size before room status = (status ≡ NO_ROOM) × (size ≡ needed) × (room ≡ before)
PutsRefusal Absent entries used size before room status = (status ≡ ABSENT) × (size ≡ 0) × (room ≡ before)

-- the status, size and buffer that report the text or the reason
abbrev pub PutsAnswer : Result (Vec ℕ) TextRefusal → ℕ → ℕ → ℕ → List ℕ → List ℕ → ℕ → Type 0
PutsAnswer (Ok text) entries used size before room status = (status ≡ SUCCESS) × PutsText text.items size before room
PutsAnswer (Err why) entries used size before room status = PutsRefusal why entries used size before room status

-- the status, size and buffer that report why a log leads to no session
abbrev pub PutsStop : TextStop → ℕ → List ℕ → List ℕ → ℕ → Type 0
PutsStop (stop.Fault fault) size before room status = (status ≡ number_of_fault fault.fault) × PutsText (fault_text fault.fault fault.used) size before room
PutsStop (stop.Refused entries refusal) size before room status = (status ≡ number_of_refusal refusal) × PutsText (refusal_text refusal entries) size before room
