-- A `SessionHandle` owns the same memory as a `Box` of a session. A slot owns the memory that its
-- handle owns.
use base.Fml.{Fml, ftrue}
use base.Stored.{Coded}
use denote.RawPtr.{Ptr}
use Rattle.std.specs.Prelude.{Option, None, Some}
use Rattle.std.specs.Box.Ownership.{box_owns}
use Rattle.std.specs.Coded.{coded_option}
use Rattle.std.specs.Global.{Global}
use Rattle.std_heap.specs.contracts.GlobalAllocator.TheImpl.{ghosts}
use Rattle.mesosev_session.specs.contracts.text_session.TextSession.{the_row}

abbrev pub session_owns : Global → Ptr → the_row.Denot → Fml
session_owns alloc = box_owns (ghosts.dealloc_token alloc) the_row

abbrev pub session_coded : Coded the_row.Denot
session_coded = the_row.coded

-- the memory that the handle in the slot owns, if there is a handle
abbrev pub session_slot_owns : Global → Ptr → Option the_row.Denot → Fml
session_slot_owns alloc ptr None = ftrue
session_slot_owns alloc ptr (Some d) = session_owns alloc ptr d

abbrev pub maybe_session_coded : Coded (Option the_row.Denot)
maybe_session_coded = coded_option session_coded
