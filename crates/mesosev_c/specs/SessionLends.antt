-- A `SessionHandle` lends its session.
use base.Fml.{Fml}
use denote.Follow.{follows}
use denote.Ref.{MutBor}
use Rattle.mesosev_c.specs.declared.handle.SessionHandle.{SessionHandle}
use Rattle.mesosev_session.specs.declared.text_session.TextSession.{TextSession}
use Rattle.mesosev_c.specs.contracts.handle.SessionHandle.{the_row as handle_row}
use Rattle.mesosev_session.specs.contracts.text_session.TextSession.{the_row as session_row}

-- the handle with another session in place of its own
abbrev pub with_session : SessionHandle → TextSession → SessionHandle
with_session h d = record { ptr = h.ptr; alloc = h.alloc; held = d }

-- once the borrow r ends, the handle of h has the last session written through r
abbrev pub session_follows : MutBor SessionHandle → MutBor TextSession → Fml
session_follows h r = follows handle_row session_row h.ghost_name r.ghost_name (with_session h.now)
