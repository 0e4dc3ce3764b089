use Rattle.std.proofs.Common.{◌≡◌, ℕ, List, refl, sym, ◌∙◌, subst}
use Rattle.mesosev_stream.specs.Following.{GoesFrom, IsFresh, StartsLines, StopsFrom}
use Rattle.mes_stream.specs.declared.stream_reader.Framing.{Framing}
use Rattle.mesosev_stream.specs.Messages.{shown_as}
use Rattle.mesosev_stream.specs.Printing.{ended_after}
use Rattle.mesosev_stream.specs.Showing.{Follows}
use Rattle.mesosev_stream.specs.declared.follower.Follower.{Follower}
use Rattle.mesosev_stream.specs.declared.follower.FollowStop.{FollowStop}
use Rattle.mesosev_stream.specs.declared.outcome.RunOutcome.TheVariants.{OutputFailed}
use Rattle.mesosev_stream.proofs.FollowReads.{goes_start, follows_outcome, follows_cut, follows_lacking}
use Rattle.mesosev_stream.proofs.LineNumberLemmas.{counter_start, inner_ends, line_known, of_lines}
use Rattle.mesosev_stream.proofs.follower.follow.Goals as goal

pub read_device-end-requires : goal.read_device-end-requires
read_device-end-requires g c = counter_start (StartsLines (shown_as g.M.Part.kind g.M.ShownMessage.word g.M.ShownMessage.lines)) c.new-counter.result (goes_start (shown_as g.M.Part.kind g.M.ShownMessage.word g.M.ShownMessage.lines) _ _)

pub returns-in-Ok : goal.returns-in-Ok
returns-in-Ok g c =
    let h = c.read_device-end.ensures in
    let first = c.new-counter.result in
    let now = c.read_device-end.new.consumer in
    let Goes : List ℕ → Type 0 = λ w. GoesFrom (shown_as g.M.Part.kind g.M.ShownMessage.word g.M.ShownMessage.lines) first.inner (g.O.Sink.device c.args.out.now) now.inner (g.O.Sink.device c.read_device-end.new.to) w in
    let Stops : List ℕ → List ℕ → FollowStop → Type 0 = λ w piece why. StopsFrom (shown_as g.M.Part.kind g.M.ShownMessage.word g.M.ShownMessage.lines) first.inner (g.O.Sink.device c.args.out.now) now.inner (g.O.Sink.device c.read_device-end.new.to) w piece why in
    let old = g.I.Source.device c.args.input.now in
    let new = g.I.Source.device c.read_device-end.new.source in
    let ends = inner_ends (StartsLines (shown_as g.M.Part.kind g.M.ShownMessage.word g.M.ShownMessage.lines)) Goes Stops first now c.args.max_reads old.counts new.counts new.bytes h.0 c.read_device-end.result h.2 in
    let fresh : IsFresh (shown_as g.M.Part.kind g.M.ShownMessage.word g.M.ShownMessage.lines) first.inner c.args.framing c.args.limit = subst (λ (d : Follower g.row.M.Denot). IsFresh (shown_as g.M.Part.kind g.M.ShownMessage.word g.M.ShownMessage.lines) d c.args.framing c.args.limit) (sym c.new-counter.ensures.inner) (record { represents = c.new-2.ensures; number = refl; messages = c.new-3.ensures.items; lines = c.new-5.ensures.held; sent = c.new-5.ensures.sent }) in
    subst (λ (d : Follower g.row.M.Denot). Follows (shown_as g.M.Part.kind g.M.ShownMessage.word g.M.ShownMessage.lines) d.detail c.args.framing c.args.limit c.args.max_reads old new (g.O.Sink.device c.args.out.now) (g.O.Sink.device c.finish.new.out) c.finish.result) c.new-counter.ensures.inner
    (follows_outcome (shown_as g.M.Part.kind g.M.ShownMessage.word g.M.ShownMessage.lines) c.args.framing c.args.limit c.args.max_reads c.requires old new (g.O.Sink.device c.args.out.now) (g.O.Sink.device c.read_device-end.new.to) first.inner now.inner fresh h.0 h.1 c.read_device-end.result c.in-Ok.end c.line_of-line.result (g.O.Sink.device c.finish.new.out) c.finish.result ends (sym c.ended.ensures ∙ c.in-Ok.is) c.finish.ensures
    (λ most within. line_known (StartsLines (shown_as g.M.Part.kind g.M.ShownMessage.word g.M.ShownMessage.lines)) Goes Stops first now c.args.max_reads old.counts new.counts new.bytes h.0 c.requires c.args.framing (λ is. ((c.args.limit, of_lines (λ (framing : Framing). IsFresh (shown_as g.M.Part.kind g.M.ShownMessage.word g.M.ShownMessage.lines) first.inner framing c.args.limit) c.args.framing is fresh), c.new-counter.ensures.fresh (c.counts_lines.ensures ∙ is))) now.inner.reading.used c.line_of-line.result most c.read_device-end.result h.2 within (rw c.used.ensures.count at c.line_of-line.ensures)))

pub returns-in-Err-Output : goal.returns-in-Err-Output
returns-in-Err-Output g c =
    let h = c.read_device-end.ensures in
    let first = c.new-counter.result in
    let now = c.read_device-end.new.consumer in
    let Goes : List ℕ → Type 0 = λ w. GoesFrom (shown_as g.M.Part.kind g.M.ShownMessage.word g.M.ShownMessage.lines) first.inner (g.O.Sink.device c.args.out.now) now.inner (g.O.Sink.device c.read_device-end.new.to) w in
    let Stops : List ℕ → List ℕ → FollowStop → Type 0 = λ w piece why. StopsFrom (shown_as g.M.Part.kind g.M.ShownMessage.word g.M.ShownMessage.lines) first.inner (g.O.Sink.device c.args.out.now) now.inner (g.O.Sink.device c.read_device-end.new.to) w piece why in
    let old = g.I.Source.device c.args.input.now in
    let new = g.I.Source.device c.read_device-end.new.source in
    let ends = inner_ends (StartsLines (shown_as g.M.Part.kind g.M.ShownMessage.word g.M.ShownMessage.lines)) Goes Stops first now c.args.max_reads old.counts new.counts new.bytes h.0 c.read_device-end.result h.2 in
    let fresh : IsFresh (shown_as g.M.Part.kind g.M.ShownMessage.word g.M.ShownMessage.lines) first.inner c.args.framing c.args.limit = subst (λ (d : Follower g.row.M.Denot). IsFresh (shown_as g.M.Part.kind g.M.ShownMessage.word g.M.ShownMessage.lines) d c.args.framing c.args.limit) (sym c.new-counter.ensures.inner) (record { represents = c.new-2.ensures; number = refl; messages = c.new-3.ensures.items; lines = c.new-5.ensures.held; sent = c.new-5.ensures.sent }) in
    rw c.in-Err-Output.field-0-is (
    subst (λ (d : Follower g.row.M.Denot). Follows (shown_as g.M.Part.kind g.M.ShownMessage.word g.M.ShownMessage.lines) d.detail c.args.framing c.args.limit c.args.max_reads old new (g.O.Sink.device c.args.out.now) (g.O.Sink.device c.read_device-end.new.to) (OutputFailed c.in-Err-Output.fault.sent)) c.new-counter.ensures.inner
    (follows_cut (shown_as g.M.Part.kind g.M.ShownMessage.word g.M.ShownMessage.lines) c.args.framing c.args.limit c.args.max_reads c.requires old new (g.O.Sink.device c.args.out.now) (g.O.Sink.device c.read_device-end.new.to) first.inner now.inner fresh h.0 h.1 c.read_device-end.result c.in-Err-Output.fault ends (rw c.in-Err-Output.field-0-is at (sym c.ended.ensures ∙ c.in-Err-Output.is))))

pub returns : goal.returns
returns g c =
    let h = c.read_device-end.ensures in
    let first = c.new-counter.result in
    let now = c.read_device-end.new.consumer in
    let Goes : List ℕ → Type 0 = λ w. GoesFrom (shown_as g.M.Part.kind g.M.ShownMessage.word g.M.ShownMessage.lines) first.inner (g.O.Sink.device c.args.out.now) now.inner (g.O.Sink.device c.read_device-end.new.to) w in
    let Stops : List ℕ → List ℕ → FollowStop → Type 0 = λ w piece why. StopsFrom (shown_as g.M.Part.kind g.M.ShownMessage.word g.M.ShownMessage.lines) first.inner (g.O.Sink.device c.args.out.now) now.inner (g.O.Sink.device c.read_device-end.new.to) w piece why in
    let old = g.I.Source.device c.args.input.now in
    let new = g.I.Source.device c.read_device-end.new.source in
    let ends = inner_ends (StartsLines (shown_as g.M.Part.kind g.M.ShownMessage.word g.M.ShownMessage.lines)) Goes Stops first now c.args.max_reads old.counts new.counts new.bytes h.0 c.read_device-end.result h.2 in
    let fresh : IsFresh (shown_as g.M.Part.kind g.M.ShownMessage.word g.M.ShownMessage.lines) first.inner c.args.framing c.args.limit = subst (λ (d : Follower g.row.M.Denot). IsFresh (shown_as g.M.Part.kind g.M.ShownMessage.word g.M.ShownMessage.lines) d c.args.framing c.args.limit) (sym c.new-counter.ensures.inner) (record { represents = c.new-2.ensures; number = refl; messages = c.new-3.ensures.items; lines = c.new-5.ensures.held; sent = c.new-5.ensures.sent }) in
    rw (c.following.ensures, c.sent.ensures) (
    subst (λ (d : Follower g.row.M.Denot). Follows (shown_as g.M.Part.kind g.M.ShownMessage.word g.M.ShownMessage.lines) d.detail c.args.framing c.args.limit c.args.max_reads old new (g.O.Sink.device c.args.out.now) (g.O.Sink.device c.out_of_memory.new.out) (ended_after now.inner.lines.sent c.out_of_memory.result)) c.new-counter.ensures.inner
    (follows_lacking (shown_as g.M.Part.kind g.M.ShownMessage.word g.M.ShownMessage.lines) c.args.framing c.args.limit c.args.max_reads c.requires old new (g.O.Sink.device c.args.out.now) (g.O.Sink.device c.read_device-end.new.to) first.inner now.inner fresh h.0 h.1 c.read_device-end.result (g.O.Sink.device c.out_of_memory.new.out) c.out_of_memory.result ends (rw c.in-Err-NoMemory.field-0-is at (sym c.ended.ensures ∙ c.in-Err-NoMemory.is)) c.out_of_memory.ensures))
