-- The numbers of results, errors and event types in C.
use Rattle.std.specs.Prelude.{ℕ}
use Rattle.mes_frame.specs.declared.fault.FrameFault.TheVariants.{BadChunkLine, ChunkLineTooLong, ChunkTooLarge, BadChunkEnd, TrailersTooLong, BadSizeLine, SizeLineTooLong, RecordTooLarge}
use Rattle.mes_msg.specs.Event.{Event}
use Rattle.mes_msg.specs.Event.TheVariants as event
use Rattle.mes_stream.specs.declared.fault.Fault.{Fault}
use Rattle.mes_stream.specs.declared.fault.Fault.TheVariants.{Frame, EndsInsideChunks, EndsInsideRecord, Text, Field, NoMemory, Read, ReadsSpent, BadEntry}

-- the status of success: a whole stream or a call was read, or a handle was created
abbrev pub SUCCESS : ℕ
SUCCESS = 0

-- the status for a handle that could not be allocated: the number of F13
abbrev pub NO_MEMORY : ℕ
NO_MEMORY = 13

-- the status if more input is needed
abbrev pub MORE : ℕ
MORE = 32

-- the status of a decoded event
abbrev pub EVENT : ℕ
EVENT = 33

-- the status at the end of the stream
abbrev pub END : ℕ
END = 34

-- the status of a decoded event or call whose text is too deep, too large or not allocated
abbrev pub NO_TEXT : ℕ
NO_TEXT = 35

-- the status if a text does not fit the caller's buffer
abbrev pub NO_ROOM : ℕ
NO_ROOM = 36

-- the status if a session has no framework, or no such offer or update
abbrev pub ABSENT : ℕ
ABSENT = 37

-- the statuses of a record limit out of its range, and of an unknown framing number
abbrev pub BAD_LIMIT : ℕ
BAD_LIMIT = 100

abbrev pub BAD_FRAMING : ℕ
BAD_FRAMING = 101

-- the number in an error's name
abbrev pub number_of_fault : Fault → ℕ
number_of_fault (Frame BadChunkLine) = 1
number_of_fault (Frame ChunkLineTooLong) = 2
number_of_fault (Frame ChunkTooLarge) = 3
number_of_fault (Frame BadChunkEnd) = 4
number_of_fault (Frame TrailersTooLong) = 5
number_of_fault EndsInsideChunks = 6
number_of_fault (Frame BadSizeLine) = 7
number_of_fault (Frame SizeLineTooLong) = 8
number_of_fault (Frame RecordTooLarge) = 9
number_of_fault EndsInsideRecord = 10
number_of_fault (Text at_record byte why) = 11
number_of_fault (Field at_record path why) = 12
number_of_fault NoMemory = 13
number_of_fault Read = 14
number_of_fault ReadsSpent = 15
number_of_fault (BadEntry at_record) = 16

-- the number of an event's type (scheduler.proto, `Event.Type`), 0 if it is stored by its name
abbrev pub number_of_event : Event → ℕ
number_of_event (event.Subscribed body) = 1
number_of_event (event.Offers list) = 2
number_of_event (event.Rescind body) = 3
number_of_event (event.Update body) = 4
number_of_event (event.Message body) = 5
number_of_event (event.Failure body) = 6
number_of_event (event.Error body) = 7
number_of_event event.Heartbeat = 8
number_of_event (event.Other name) = 0
