-- The printed line of a failed send, without LF.
use Rattle.std.specs.Prelude.{ℕ, ◌+◌, List, [], ◌∷◌, ◌++◌, codes, decimal}
use Rattle.mes_msg.specs.EncodeWhys.{encode_fault_kind_name}
use Rattle.mes_msg.specs.ShowLines.{spaced}
use Rattle.mes_stream.specs.Lines.{fault_text}
use Rattle.mes_stream.specs.Stream.{saturated}
use Rattle.mes_stream.specs.declared.fault.Fault.TheVariants as fault
use Rattle.mes_msg.specs.declared.send_fault.SendFault.{SendFault}
use Rattle.mes_msg.specs.declared.send_fault.SendFault.TheVariants.{Encode, NoMemory, Write}

-- like `encode failed call 1 TooLarge`, if the printed name of a message is `call`, or
-- `fault F13 NoMemory after 0`, or `write failed after 7`
abbrev pub unsent_text : List ℕ → SendFault → List ℕ
unsent_text word (Encode index why) = codes "encode failed " ++ word ++ spaced (decimal (saturated (index + 1)) ∷ encode_fault_kind_name why ∷ [])
unsent_text word NoMemory = fault_text fault.NoMemory 0
unsent_text word (Write stopped) = codes "write failed after" ++ spaced (decimal stopped.sent ∷ [])

-- `unsent_text` of events
abbrev pub send_text : SendFault → List ℕ
send_text f = unsent_text (codes "event") f
