-- The effects of the devices over memory.
use Rattle.std.specs.Prelude.{◌≡◌, ℕ, ◌-◌, ◌<◌, min, max, List, [], Option, Some, Result, Ok, Err, length}
use Rattle.mes_frame.specs.Counts.{no_calls}
use Rattle.mes_frame.specs.Devices.{Device}
use Rattle.mes_frame.specs.declared.memory_source.MemorySource.{MemorySource}
use Rattle.mes_frame.specs.declared.memory_sink.MemorySink.{MemorySink}
use Rattle.mes_frame.specs.declared.memory_sink.MemoryStop.{MemoryStop}
use Rattle.mes_frame.specs.declared.memory_sink.MemoryStop.TheVariants.{Fails, TakesNone}

-- the bytes that a reader has left to read, and the counts of its reads
abbrev pub source_of : MemorySource → Device
source_of s = record { bytes = Some s.bytes.now; counts = s.counts }

-- a reader of `bytes`, at most `most` a call, that fails after `good` of them
pub record SourceIs (bytes : List ℕ) (most good : ℕ) (s : MemorySource) : Type 0 where
  pub left : (source_of s).bytes ≡ Some bytes
  pub most_is : s.most ≡ most
  pub good_is : s.good ≡ good
  pub counts : (source_of s).counts ≡ no_calls

-- a call returns as many bytes as it may, at least one, and fails if and only if no good bytes are
-- left
abbrev pub SourceGives : {E : Type 0} → MemorySource → MemorySource → ℕ → Result ℕ E → Type 0
SourceGives old new remaining (Ok n) =
    (0 < old.good) × (n ≡ min (min (max old.most 1) old.good) (min remaining (length old.bytes.now)))
    × (new.most ≡ old.most) × (new.good ≡ old.good - n)
SourceGives old new remaining (Err e) = (old.good ≡ 0) × (new.most ≡ old.most) × (new.good ≡ old.good)

-- the bytes that a writer has written, and the counts of its writes
abbrev pub sink_of : MemorySink → Device
sink_of s = record { bytes = Some s.bytes.items; counts = s.counts }

-- a writer that has written nothing, takes at most `most` bytes a call, and stops after `good`
pub record SinkIs (most good : ℕ) (stop : MemoryStop) (s : MemorySink) : Type 0 where
  pub written : (sink_of s).bytes ≡ Some []
  pub most_is : s.most ≡ most
  pub good_is : s.good ≡ good
  pub stop_is : s.stop ≡ stop
  pub counts : (sink_of s).counts ≡ no_calls

-- a call takes as many bytes as it may; it fails after the good bytes if `stop` is Fails, or out of
-- memory
abbrev pub SinkTakes : {E : Type 0} → MemorySink → MemorySink → ℕ → Result ℕ E → Type 0
SinkTakes old new n (Ok taken) =
    (taken ≡ min (min old.most old.good) n) × (old.good ≡ 0 → old.stop ≡ TakesNone)
    × (new.most ≡ old.most) × (new.good ≡ old.good - taken) × (new.stop ≡ old.stop)
SinkTakes old new n (Err e) =
    (old.good ≡ 0 → old.stop ≡ Fails) × (0 < old.good → 0 < min (min old.most old.good) n)
    × (new.most ≡ old.most) × (new.good ≡ old.good) × (new.stop ≡ old.stop)
