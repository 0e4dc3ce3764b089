-- The number of each error is at most 16.
use Rattle.std.proofs.Common.{◌≤◌, lit≤}
use Rattle.mes_frame.specs.declared.fault.FrameFault.TheVariants.{BadChunkLine, ChunkLineTooLong, ChunkTooLarge, BadChunkEnd, TrailersTooLong, BadSizeLine, SizeLineTooLong, RecordTooLarge}
use Rattle.mes_stream.specs.declared.fault.Fault.{Fault}
use Rattle.mes_stream.specs.declared.fault.Fault.TheVariants.{Frame, EndsInsideChunks, EndsInsideRecord, Text, Field, NoMemory, Read, ReadsSpent, BadEntry}
use Rattle.mesosev_c.specs.Numbers.{number_of_fault}

pub number_most : (fault : Fault) → number_of_fault fault ≤ 16
number_most (Frame BadChunkLine) = lit≤ tt
number_most (Frame ChunkLineTooLong) = lit≤ tt
number_most (Frame ChunkTooLarge) = lit≤ tt
number_most (Frame BadChunkEnd) = lit≤ tt
number_most (Frame TrailersTooLong) = lit≤ tt
number_most (Frame BadSizeLine) = lit≤ tt
number_most (Frame SizeLineTooLong) = lit≤ tt
number_most (Frame RecordTooLarge) = lit≤ tt
number_most EndsInsideChunks = lit≤ tt
number_most EndsInsideRecord = lit≤ tt
number_most (Text at_record byte why) = lit≤ tt
number_most (Field at_record path why) = lit≤ tt
number_most NoMemory = lit≤ tt
number_most Read = lit≤ tt
number_most ReadsSpent = lit≤ tt
number_most (BadEntry at_record) = lit≤ tt
