-- The data that the readers of a log's records have consumed.
use Rattle.std.specs.Prelude.{ℕ, List}
use Rattle.mes_session_log_entry.specs.Lettered.{HoldsLettered}
use Rattle.mes_session_log_entry.specs.declared.entry_reader.EntryReader.{EntryReader}
use Rattle.mes_session_log_entry.specs.declared.first_reader.FirstReader.{FirstReader}

-- the reader has consumed the bytes r of a first record
abbrev pub HoldsFirst : FirstReader → List ℕ → Type 0
HoldsFirst reader r = HoldsLettered reader.lettered r

-- the reader has consumed the bytes r of an entry
abbrev pub HoldsEntry : {version : ℕ} → EntryReader version → List ℕ → Type 0
HoldsEntry reader r = HoldsLettered reader.lettered r
