-- The errors that end the reading of a body of known length before its last byte.
use Rattle.std.specs.Prelude.{◌≡◌, ℕ, ◌<◌, ◌≤◌, List, [], length}
use Rattle.mes_frame.specs.declared.counts.Counts.{Counts}
use Rattle.mes_double_http.specs.Endings.{AllGive, OneFails, OneEnds}
use Rattle.mes_double_http.specs.declared.fault.HeadFault.{HeadFault}
use Rattle.mes_double_http.specs.declared.fault.HeadFault.TheVariants as fault

-- the reader failed or ended before n bytes were read, or there was no memory for bytes just read
abbrev pub StopsBody : ℕ → HeadFault → List ℕ → Counts → Counts → Type 0
StopsBody n fault.Read taken old new = (length taken < n) × OneFails old new
StopsBody n fault.ShortBody taken old new = (length taken < n) × OneEnds old new
StopsBody n fault.NoMemory taken old new = (0 < length taken) × (length taken ≤ n) × AllGive old new
StopsBody n _ taken old new = ⊥

-- one call of the reader for a part of a body failed, or returned the end, or memory ran out
abbrev pub StopsPart : ℕ → HeadFault → List ℕ → Counts → Counts → Type 0
StopsPart n fault.Read part old new = (part ≡ []) × OneFails old new
StopsPart n fault.ShortBody part old new = (part ≡ []) × OneEnds old new
StopsPart n fault.NoMemory part old new = (0 < length part) × (length part ≤ n) × AllGive old new
StopsPart n _ part old new = ⊥
