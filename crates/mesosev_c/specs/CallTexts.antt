-- The result of decoding a call.
use Rattle.std.specs.Prelude.{◌≡◌, ◌≢◌, ℕ, List, length}
use Rattle.mes_msg_call.specs.Calls.{call}
use Rattle.mes_msg.specs.Call.{Call}
use Rattle.mes_frame.specs.declared.limits.TheConstants.{MAX_RECORD_LIMIT}
use Rattle.mes_msg.specs.EncodeFault.{EncodeFault}
use Rattle.mes_msg.specs.EncodeFault.TheVariants as encode
use Rattle.mes_msg.specs.RecordFault.{RecordFault}
use Rattle.mes_msg_record.specs.Texts.{Fits, IsTextOf, IsFaultOf, IsRefusalOf, canonical_of}
use Rattle.mes_stream.specs.Lines.{fault_text}
use Rattle.mes_stream.specs.Refusals.{fault_at_record, refusal_of}
use Rattle.mesosev_c.specs.Numbers.{SUCCESS, NO_TEXT, number_of_fault}
use Rattle.mesosev_c.specs.Rooms.{with_text}
use Rattle.mesosev_c.specs.declared.calls.ReportedCall.{ReportedCall}
use Rattle.mesosev_c.specs.declared.calls.ReportedCall.TheVariants as reported

-- the canonical text of the call nests too deep, or exceeds the largest record limit
abbrev pub IsUnfit : Call → Type 0
IsUnfit c = (why : EncodeFault) × (why ≢ encode.NoMemory) × IsRefusalOf call c MAX_RECORD_LIMIT why

-- for a call: its canonical text; or too deep or too large for any record; or not allocated
abbrev pub IsReportedText : Call → ReportedCall → Type 0
IsReportedText c (reported.Text text) = (text.items ≡ canonical_of call c) × Fits call c MAX_RECORD_LIMIT
IsReportedText c reported.Unfit = IsUnfit c
IsReportedText c reported.Lost = Unit {0}
IsReportedText c (reported.Fault fault) = ⊥

-- for bytes: the result for the call whose text they are, or the error if they are no call
abbrev pub IsReportedCall : List ℕ → ReportedCall → Type 0
IsReportedCall w (reported.Text text) = (c : Call) × IsTextOf call w c × (text.items ≡ canonical_of call c) × Fits call c MAX_RECORD_LIMIT
IsReportedCall w reported.Unfit = (c : Call) × IsTextOf call w c × IsUnfit c
IsReportedCall w reported.Lost = (c : Call) × IsTextOf call w c
IsReportedCall w (reported.Fault fault) = (why : RecordFault) × IsFaultOf call w why × (fault ≡ fault_at_record 1 (refusal_of why))

-- a text was copied into the caller's buffer, and its size returned
abbrev pub PutsText : List ℕ → ℕ → List ℕ → List ℕ → Type 0
PutsText text size before room = (size ≡ length text) × (room ≡ with_text before text)

-- the status, size and buffer that report the result; `used` is the offset of an error
abbrev pub PutsCall : ReportedCall → ℕ → ℕ → List ℕ → List ℕ → ℕ → Type 0
PutsCall (reported.Text text) used size before room status = (status ≡ SUCCESS) × PutsText text.items size before room
PutsCall reported.Unfit used size before room status = (status ≡ NO_TEXT) × (size ≡ 0) × (room ≡ before)
PutsCall reported.Lost used size before room status = (status ≡ NO_TEXT) × (size ≡ 0) × (room ≡ before)
PutsCall (reported.Fault fault) used size before room status = (status ≡ number_of_fault fault) × PutsText (fault_text fault used) size before room

-- the status, size and buffer that report the result of decoding the bytes w as a call
pub record ReportsCall (w : List ℕ) (size : ℕ) (before room : List ℕ) (status : ℕ) : Type 0 where
  pub reported : ReportedCall
  pub is : IsReportedCall w reported
  pub puts : PutsCall reported (length w) size before room status
