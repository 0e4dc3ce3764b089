-- The results of a `TextDecoder`, in numbers and texts.
use Rattle.std.specs.Prelude.{◌≡◌, ℕ, ◌⊎◌, List, [], Bool, true, false, Result, Ok, Err}
use Rattle.mes_frame.specs.declared.limits.TheConstants.{MAX_RECORD_LIMIT}
use Rattle.mes_msg.specs.Canon.{canonical_text, IsGood, IsEncodeFault}
use Rattle.mes_msg.specs.EncodeFault.{EncodeFault}
use Rattle.mes_msg.specs.Event.{Event}
use Rattle.mes_stream.specs.Lines.{fault_text}
use Rattle.mes_stream.specs.declared.fault.Fault.{Fault}
use Rattle.mes_stream.specs.declared.step.Decoded.{Decoded}
use Rattle.mes_stream.specs.declared.step.Decoded.TheVariants as out
use Rattle.mesosev_c.specs.Decoders.{Takes, EndsInput}
use Rattle.mesosev_c.specs.Numbers.{MORE, EVENT, END, NO_TEXT, number_of_event, number_of_fault}
use Rattle.mesosev_c.specs.declared.event_decoder.EventDecoder.{EventDecoder}
use Rattle.mesosev_c.specs.declared.text_decoder.TextDecoder.{TextDecoder}
use Rattle.mesosev_c.specs.declared.text_decoder.Reported.{Reported}

-- an event: the number of its type and, with texts, its canonical text or the status NO_TEXT
abbrev pub ReportsEvent : Bool → Event → List ℕ → Reported → Type 0
ReportsEvent false event text reported = (reported.status ≡ EVENT) × (reported.kind ≡ number_of_event event) × (text ≡ [])
ReportsEvent true event text reported =
    (reported.kind ≡ number_of_event event)
    × (((reported.status ≡ EVENT) × (text ≡ canonical_text event) × IsGood event MAX_RECORD_LIMIT)
    ⊎ ((reported.status ≡ NO_TEXT) × (text ≡ []) × ((why : EncodeFault) × IsEncodeFault event MAX_RECORD_LIMIT why)))

-- an error after `used` bytes: its number and its line, or no line if an allocation failed
abbrev pub ReportsFault : ℕ → Fault → List ℕ → Reported → Type 0
ReportsFault used fault text reported = (reported.status ≡ number_of_fault fault) × (reported.kind ≡ 0) × ((text ≡ fault_text fault used) ⊎ (text ≡ []))

-- any other result: a status without a text
abbrev pub ReportsPlain : ℕ → List ℕ → Reported → Type 0
ReportsPlain status text reported = (reported.status ≡ status) × (reported.kind ≡ 0) × (text ≡ [])

-- a result of `EventDecoder::next`, in numbers and a text
abbrev pub ReportsOutput : Bool → ℕ → Decoded Event Fault → List ℕ → Reported → Type 0
ReportsOutput texts used out.More text reported = ReportsPlain MORE text reported
ReportsOutput texts used (out.Event event) text reported = ReportsEvent texts event text reported
ReportsOutput texts used out.End text reported = ReportsPlain END text reported
ReportsOutput texts used (out.Fault fault) text reported = ReportsFault used fault text reported

-- a result of `EventDecoder::finish`, in numbers and a text
abbrev pub ReportsEnd : ℕ → Result (Unit {0}) Fault → List ℕ → Reported → Type 0
ReportsEnd used (Ok done) text reported = ReportsPlain END text reported
ReportsEnd used (Err fault) text reported = ReportsFault used fault text reported

-- the decoder changes only in its text
pub record KeepsAll (old new : TextDecoder) : Type 0 where
  pub decoder : new.decoder ≡ old.decoder
  pub texts : new.texts ≡ old.texts

-- one call of `next`, with or without texts: the bytes used, the result, and its text
pub record ReportsStep (texts : Bool) (old new : EventDecoder) (piece : List ℕ) (used : ℕ) (reported : Reported) (text : List ℕ) : Type 0 where
  pub out : Decoded Event Fault
  pub takes : Takes old new piece used out
  pub reports : ReportsOutput texts new.used out text reported

-- the result of `TextDecoder::next`
pub record ReportsNext (old new : TextDecoder) (piece : List ℕ) (used : ℕ) (reported : Reported) : Type 0 where
  pub step : ReportsStep old.texts old.decoder new.decoder piece used reported new.text.items
  pub texts : new.texts ≡ old.texts

-- the result of `TextDecoder::finish`
pub record ReportsFinish (old new : TextDecoder) (reported : Reported) : Type 0 where
  pub outcome : Result (Unit {0}) Fault
  pub ends : EndsInput old.decoder new.decoder outcome
  pub reports : ReportsEnd new.decoder.used outcome new.text.items reported
  pub texts : new.texts ≡ old.texts
