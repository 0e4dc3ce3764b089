-- A `Handle` lends its decoder.
use base.Fml.{Fml}
use denote.Follow.{follows}
use denote.Ref.{MutBor}
use Rattle.mesosev_c.specs.declared.handle.Handle.{Handle}
use Rattle.mesosev_c.specs.declared.text_decoder.TextDecoder.{TextDecoder}
use Rattle.mesosev_c.specs.contracts.handle.Handle.{the_row as handle_row}
use Rattle.mesosev_c.specs.contracts.text_decoder.TextDecoder.{the_row as decoder_row}

-- the handle with another decoder in place of its own
abbrev pub with_decoder : Handle → TextDecoder → Handle
with_decoder h d = record { ptr = h.ptr; alloc = h.alloc; held = d }

-- once the borrow r ends, the handle of h has the last decoder written through r
abbrev pub handle_follows : MutBor Handle → MutBor TextDecoder → Fml
handle_follows h r = follows handle_row decoder_row h.ghost_name r.ghost_name (with_decoder h.now)
