-- The bytes of a response.
use Rattle.std.specs.Prelude.{◌≡◌, ℕ, List, [], ◌++◌, Result, Ok, Err}
use Rattle.mes_frame.specs.Devices.{Device}
use Rattle.mes_frame.specs.Frames.{IsFrames}
use Rattle.mes_frame.specs.declared.limits.TheConstants.{DEFAULT_RECORD_LIMIT}
use Rattle.mes_frame.specs.declared.write.WriteFault.{WriteFault}
use Rattle.mes_double_http.specs.Texts.{ok_text, status_text}
use Rattle.mes_msg.specs.Events.{event}
use Rattle.mes_msg.specs.declared.send_fault.EncodeFaultKind.{EncodeFaultKind}
use Rattle.mes_msg.specs.declared.send_fault.SendFault.{SendFault}
use Rattle.mes_msg.specs.declared.send_fault.SendFault.TheVariants as send
use Rattle.mes_stream.specs.Sending.{IsFirstBad, IsStreamOf, WroteAll, WroteSome}
use Rattle.mesosev_serve.specs.declared.response.Reply.{Reply}
use Rattle.mesosev_serve.specs.declared.response.Reply.TheVariants.{Nothing, Status, Stream}
use Rattle.mesosev_serve.specs.declared.response_writer.SendError.{SendError}
use Rattle.mesosev_serve.specs.declared.response_writer.SendError.TheVariants as unsent

-- w was written completely
abbrev pub Wrote : Device → Device → List ℕ → Type 0
Wrote old new w = WroteAll (λ (d : Device). d) old new w

-- only the first `sent` bytes of w were written, and one call failed, as the error `fault` states
abbrev pub Stopped : Device → Device → List ℕ → WriteFault → Type 0
Stopped old new w fault = WroteSome (λ (d : Device). d) old new w fault

-- the bytes w are the response: nothing, a status, or the head of a stream and its events in chunks
abbrev pub IsReplyText : ℕ → Reply → List ℕ → Type 0
IsReplyText most Nothing w = w ≡ []
IsReplyText most (Status code) w = w ≡ status_text code
IsReplyText most (Stream id events) w = (body : List ℕ) × IsStreamOf event DEFAULT_RECORD_LIMIT most events body × (w ≡ ok_text id ++ body)

-- the response is a stream, and one of its events cannot be encoded
abbrev pub IsUnwritable : Reply → Type 0
IsUnwritable (Stream id events) = (index : ℕ) × (why : EncodeFaultKind) × IsFirstBad event DEFAULT_RECORD_LIMIT events index why
IsUnwritable _ = ⊥

-- writing the response allocates: the response is a stream
abbrev pub TakesMemory : Reply → Type 0
TakesMemory (Stream id events) = Unit {0}
TakesMemory _ = ⊥

-- the error for a stream whose events were not encoded or written
abbrev pub unsent_of : SendFault → SendError
unsent_of send.NoMemory = unsent.NoMemory
unsent_of (send.Encode index why) = unsent.Encode
unsent_of (send.Write fault) = unsent.Write

-- the response was written; or encoding it failed and nothing was written; or the writer failed
abbrev pub Writes : {T : Type 0} → ℕ → Reply → Device → Device → Result T SendError → Type 0
Writes most reply old new (Ok done) = (w : List ℕ) × IsReplyText most reply w × Wrote old new w
Writes most reply old new (Err unsent.NoMemory) = TakesMemory reply × (new ≡ old)
Writes most reply old new (Err unsent.Encode) = IsUnwritable reply × (new ≡ old)
Writes most reply old new (Err unsent.Write) = (w : List ℕ) × IsReplyText most reply w × ((fault : WriteFault) × Stopped old new w fault)

-- the head of a stream and the records in chunks were written, or the writer failed
abbrev pub WritesRecords : {T : Type 0} → ℕ → List ℕ → List ℕ → Device → Device → Result T SendError → Type 0
WritesRecords most id records old new (Ok done) = (body : List ℕ) × IsFrames records most body × Wrote old new (ok_text id ++ body)
WritesRecords most id records old new (Err unsent.Write) = (body : List ℕ) × IsFrames records most body × ((fault : WriteFault) × Stopped old new (ok_text id ++ body) fault)
WritesRecords most id records old new (Err why) = ⊥
