-- The printed lines of the live test master. Each ends with LF.
use Rattle.std.specs.Prelude.{◌≡◌, ℕ, ◌+◌, ◌-◌, ◌^◌, ◌<◌, ◌≤◌, ◌⊎◌, Bool, true, false, List, [], ◌++◌, Option, None, Some, codes, decimal, drop, take, length, min}
use Rattle.std.specs.Io.KnownBytes.{Appends}
use Rattle.mes_frame.specs.Devices.{Device}
use Rattle.mes_double_faults.specs.Texts.{fault_text}
use Rattle.mes_double_faults.specs.declared.fault.Fault.{Fault}
use Rattle.mesosev_live.specs.declared.limits.TheConstants.{MAX_LINES}
use Rattle.mesosev_live.specs.declared.lines.Lines.{Lines}
use Rattle.mesosev_live.specs.declared.lines.StreamEnd.{StreamEnd}
use Rattle.mesosev_live.specs.declared.lines.StreamEnd.TheVariants.{Replaced, Teardown, Removed, Closed, Broken, Unread, Stopped}

-- the port on which the master listens
abbrev pub listening_line : ℕ → List ℕ
listening_line port = codes "listening on 127.0.0.1:" ++ decimal port ++ codes "\n"

-- the status of a response, or `-` without a response
abbrev pub status_name : Option ℕ → List ℕ
status_name None = codes "-"
status_name (Some code) = decimal code

-- a request: the status of the response, and the type of the call, or `-` without a call
abbrev pub answered_line : Option ℕ → List ℕ → List ℕ
answered_line status name = status_name status ++ codes " " ++ name ++ codes "\n"

-- a stream was opened
abbrev pub opened_line : List ℕ → List ℕ
opened_line id = codes "stream " ++ id ++ codes " opened\n"

-- the reason for which a stream ended
abbrev pub end_name : StreamEnd → List ℕ
end_name Replaced = codes "replaced"
end_name Teardown = codes "teardown"
end_name Removed = codes "removed"
end_name Closed = codes "closed"
end_name Broken = codes "broken"
end_name Unread = codes "unread"
end_name Stopped = codes "stopped"

-- a stream ended
abbrev pub ended_line : List ℕ → StreamEnd → List ℕ
ended_line id why = codes "stream " ++ id ++ codes " ended " ++ end_name why ++ codes "\n"

-- a planned fault that happened
abbrev pub fault_happened_line : Fault → List ℕ
fault_happened_line fault = codes "fault " ++ fault_text fault ++ codes "\n"

-- the number of lines that were dropped
abbrev pub dropped_line : ℕ → List ℕ
dropped_line count = codes "lines dropped " ++ decimal count ++ codes "\n"

-- the bytes that are not written
abbrev pub waiting : Lines → List ℕ
waiting lines = lines.bytes.items

-- the line is stored after the others, within MAX_LINES bytes
abbrev pub Stores : List ℕ → Lines → Lines → Type 0
Stores line old new =
    (length (waiting old) + length line ≤ MAX_LINES) × (waiting new ≡ waiting old ++ line) × (new.dropped ≡ old.dropped)

-- the line is not stored: there is no room or no memory
abbrev pub StoresIf : List ℕ → Lines → Lines → Bool → Type 0
StoresIf line old new true = Stores line old new
StoresIf line old new false = (waiting new ≡ waiting old) × (new.dropped ≡ old.dropped)

-- the line is dropped and counted; the count stops at 2^64 - 1
abbrev pub DropsLine : Lines → Lines → Type 0
DropsLine old new = (waiting new ≡ waiting old) × (new.dropped ≡ min (old.dropped + 1) (2 ^ 64 - 1))

-- the line is stored, if no line was dropped before it; or it is dropped
abbrev pub Pushes : List ℕ → Lines → Lines → Type 0
Pushes line old new = ((old.dropped ≡ 0) × Stores line old new) ⊎ DropsLine old new

-- the number of the lines that were dropped follows the last stored one, once that is written
abbrev pub CountsDropped : Lines → Lines → Type 0
CountsDropped old new =
    ((waiting new ≡ waiting old) × (new.dropped ≡ old.dropped))
    ⊎ ((waiting old ≡ []) × (0 < old.dropped) × (waiting new ≡ dropped_line old.dropped) × (new.dropped ≡ 0))

-- the first `count` bytes were written
abbrev pub Writes : ℕ → Lines → Lines → Type 0
Writes count old new =
    ((waiting new ≡ drop count (waiting old)) × (new.dropped ≡ old.dropped))
    ⊎ ((drop count (waiting old) ≡ []) × (0 < old.dropped) × (waiting new ≡ dropped_line old.dropped) × (new.dropped ≡ 0))

-- One call of the output wrote the first bytes, at most `most`. Or it wrote none: the output takes
-- none now, or it failed, and the lines are dropped.
abbrev pub PutsLines : ℕ → Device → Device → Lines → Lines → Bool → Type 0
PutsLines most old new before after true =
    (count : ℕ) × (count ≤ most) × Appends old.bytes new.bytes (take count (waiting before)) × Writes count before after
PutsLines most old new before after false =
    Appends old.bytes new.bytes [] × ((waiting after ≡ waiting before) ⊎ (waiting after ≡ []))
