-- A `Handle` owns the same memory as a `Box` of a decoder. A slot owns the memory that its handle
-- owns.
use base.Fml.{Fml, ftrue}
use base.Stored.{Coded}
use denote.RawPtr.{Ptr}
use Rattle.std.specs.Prelude.{Option, None, Some}
use Rattle.std.specs.Box.Ownership.{box_owns}
use Rattle.std.specs.Coded.{coded_option}
use Rattle.std.specs.Global.{Global}
use Rattle.std_heap.specs.contracts.GlobalAllocator.TheImpl.{ghosts}
use Rattle.mesosev_c.specs.contracts.text_decoder.TextDecoder.{the_row}

abbrev pub handle_owns : Global → Ptr → the_row.Denot → Fml
handle_owns alloc = box_owns (ghosts.dealloc_token alloc) the_row

abbrev pub decoder_coded : Coded the_row.Denot
decoder_coded = the_row.coded

-- the memory that the handle in the slot owns, if there is a handle
abbrev pub slot_owns : Global → Ptr → Option the_row.Denot → Fml
slot_owns alloc ptr None = ftrue
slot_owns alloc ptr (Some d) = handle_owns alloc ptr d

abbrev pub maybe_coded : Coded (Option the_row.Denot)
maybe_coded = coded_option decoder_coded
