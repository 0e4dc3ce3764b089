-- The printed lines of a connection.
use Rattle.std.specs.Prelude.{◌≡◌, ℕ, Bool, true, false, List, ◌++◌, length, Result, Ok, Err, codes, decimal}
use Rattle.mes_frame.specs.Devices.{Device}
use Rattle.mes_frame.specs.declared.write.WriteFault.{WriteFault}
use Rattle.mes_double_master.specs.Names.{call_name}
use Rattle.mesosev_serve.specs.Writing.{Stopped, Wrote}
use Rattle.mesosev_serve.specs.declared.request.ParsedRequest.{ParsedRequest}
use Rattle.mesosev_serve.specs.declared.request.ParsedRequest.TheVariants.{Calls}
use Rattle.mesosev_serve.specs.declared.response.Reply.{Reply}
use Rattle.mesosev_serve.specs.declared.response.Reply.TheVariants.{Nothing, Status, Stream}
use Rattle.mesosev_serve.specs.declared.connection.Served.{Served}
use Rattle.mesosev_serve.specs.declared.response_writer.SendError.{SendError}
use Rattle.mesosev_serve.specs.declared.response_writer.SendError.TheVariants as unsent

-- the name of the call's type, or `-` without a call
abbrev pub asked_name : ParsedRequest → List ℕ
asked_name (Calls stream c) = call_name c
asked_name _ = codes "-"

-- the status of the response, or `-` without a response
abbrev pub reply_name : Reply → List ℕ
reply_name Nothing = codes "-"
reply_name (Status code) = decimal code
reply_name (Stream id events) = codes "200"

abbrev pub served_line : List ℕ → List ℕ → List ℕ
served_line status name = status ++ codes " " ++ name ++ codes "\n"

abbrev pub write_failed_line : List ℕ
write_failed_line = codes "net write failed\n"

-- the lines of a connection; a second line if the response could not be encoded or written
abbrev pub served_lines : {T : Type 0} → Reply → ParsedRequest → Result T SendError → List ℕ
served_lines reply asked (Ok done) = served_line (reply_name reply) (asked_name asked)
served_lines reply asked (Err unsent.NoMemory) = served_line (codes "-") (asked_name asked)
served_lines reply asked (Err unsent.Encode) = served_line (reply_name reply) (asked_name asked) ++ write_failed_line
served_lines reply asked (Err unsent.Write) = served_line (reply_name reply) (asked_name asked) ++ write_failed_line

-- true if the whole response was written, or if there is none because an allocation failed
abbrev pub is_answered : {T : Type 0} → Result T SendError → Bool
is_answered (Ok done) = true
is_answered (Err unsent.NoMemory) = true
is_answered (Err unsent.Encode) = false
is_answered (Err unsent.Write) = false

-- the lines were printed, and `served` has their number of bytes; or the output failed
abbrev pub Reports : List ℕ → Bool → Device → Device → Result Served WriteFault → Type 0
Reports text answered old new (Ok served) = Wrote old new text × (served.answered ≡ answered) × (served.printed ≡ length text)
Reports text answered old new (Err fault) = Stopped old new text fault
