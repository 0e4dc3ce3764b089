-- The printed lines of a stream, without LF.
use Rattle.std.specs.Prelude.{ℕ, List, [], ◌∷◌, ◌++◌, codes, decimal}
use Rattle.mes_frame.specs.declared.fault.FrameFault.TheVariants.{BadChunkLine, ChunkLineTooLong, ChunkTooLarge, BadChunkEnd, TrailersTooLong, BadSizeLine, SizeLineTooLong, RecordTooLarge}
use Rattle.mes_json.specs.declared.fault.TextFaultKind.{TextFaultKind}
use Rattle.mes_json.specs.declared.fault.TextFaultKind.TheVariants.{End, Depth, Byte}
use Rattle.mes_msg.specs.ShowLines.{spaced}
use Rattle.mes_stream.specs.declared.fault.Fault.{Fault}
use Rattle.mes_stream.specs.declared.fault.Fault.TheVariants.{Frame, EndsInsideChunks, EndsInsideRecord, Text, Field, NoMemory, Read, ReadsSpent, BadEntry}
use Rattle.mes_model_schema.specs.Paths.{path_text}
use Rattle.mes_model_schema.specs.FieldFaultKinds.{field_fault_kind_name}

-- the number and the name of an error
abbrev pub fault_title : Fault → List ℕ
fault_title (Frame BadChunkLine) = codes "F1 BadChunkLine"
fault_title (Frame ChunkLineTooLong) = codes "F2 ChunkLineTooLong"
fault_title (Frame ChunkTooLarge) = codes "F3 ChunkTooLarge"
fault_title (Frame BadChunkEnd) = codes "F4 BadChunkEnd"
fault_title (Frame TrailersTooLong) = codes "F5 TrailersTooLong"
fault_title EndsInsideChunks = codes "F6 EndsInsideChunks"
fault_title (Frame BadSizeLine) = codes "F7 BadSizeLine"
fault_title (Frame SizeLineTooLong) = codes "F8 SizeLineTooLong"
fault_title (Frame RecordTooLarge) = codes "F9 RecordTooLarge"
fault_title EndsInsideRecord = codes "F10 EndsInsideRecord"
fault_title (Text at_record byte why) = codes "F11 Text"
fault_title (Field at_record path why) = codes "F12 Field"
fault_title NoMemory = codes "F13 NoMemory"
fault_title Read = codes "F14 Read"
fault_title ReadsSpent = codes "F15 ReadsSpent"
fault_title (BadEntry at_record) = codes "F16 BadEntry"

-- the printed reason for which bytes are not JSON
abbrev pub text_fault_kind_name : TextFaultKind → List ℕ
text_fault_kind_name End = codes "End"
text_fault_kind_name Depth = codes "Depth"
text_fault_kind_name Byte = codes "Byte"

-- the words for the number of the record, the place in the record and the reason
abbrev pub details : Fault → List (List ℕ)
details (Frame f) = []
details EndsInsideChunks = []
details EndsInsideRecord = []
details (Text at_record byte why) =
    codes "record" ∷ decimal at_record ∷ codes "byte" ∷ decimal byte ∷ text_fault_kind_name why ∷ []
details (Field at_record path why) =
    codes "record" ∷ decimal at_record ∷ path_text path ∷ field_fault_kind_name why ∷ []
details NoMemory = []
details Read = []
details ReadsSpent = []
details (BadEntry at_record) = codes "record" ∷ decimal at_record ∷ []

abbrev pub fault_text : Fault → ℕ → List ℕ
fault_text f used = codes "fault" ++ spaced (fault_title f ∷ details f ++ codes "after" ∷ decimal used ∷ [])

-- the counts of messages, whose printed name is `word`, and of bytes, like `calls 2 bytes 57`
abbrev pub counts_text : List ℕ → ℕ → ℕ → List ℕ
counts_text word messages used = word ++ codes "s" ++ spaced (decimal messages ∷ codes "bytes" ∷ decimal used ∷ [])

-- `counts_text` of events
abbrev pub count_text : ℕ → ℕ → List ℕ
count_text events used = counts_text (codes "event") events used
