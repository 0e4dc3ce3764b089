use Rattle.std.proofs.Common.{◌≡◌, ℕ, List, refl, sym, ◌∙◌, subst}
use Rattle.mesosev_stream.specs.Exporting.{ExportGoes, ExportStops, IsFreshExporter, StartsLines}
use Rattle.mes_stream.specs.declared.stream_reader.Framing.{Framing}
use Rattle.mesosev_stream.specs.Messages.{shown_as}
use Rattle.mesosev_stream.specs.declared.exporter.Exporter.{Exporter}
use Rattle.mesosev_stream.specs.declared.exporter.ExportStop.{ExportStop}
use Rattle.mesosev_stream.proofs.ExportReads.{export_start, exports_outcome, exports_cut, exports_refused}
use Rattle.mesosev_stream.proofs.LineNumberLemmas.{counter_start, inner_ends, line_known, of_lines}
use Rattle.mesosev_stream.proofs.exporter.export.Goals as goal

pub read_device-end-requires : goal.read_device-end-requires
read_device-end-requires g c = counter_start (StartsLines (shown_as g.M.Part.kind g.M.ShownMessage.word g.M.ShownMessage.lines)) c.new-counter.result (export_start (shown_as g.M.Part.kind g.M.ShownMessage.word g.M.ShownMessage.lines) _ _)

pub returns-in-Ok : goal.returns-in-Ok
returns-in-Ok g c =
    let h = c.read_device-end.ensures in
    let first = c.new-counter.result in
    let now = c.read_device-end.new.consumer in
    let Goes : List ℕ → Type 0 = λ w. ExportGoes (shown_as g.M.Part.kind g.M.ShownMessage.word g.M.ShownMessage.lines) first.inner (g.O.Sink.device c.args.out.now) now.inner (g.O.Sink.device c.read_device-end.new.to) w in
    let Stops : List ℕ → List ℕ → ExportStop → Type 0 = λ w piece why. ExportStops (shown_as g.M.Part.kind g.M.ShownMessage.word g.M.ShownMessage.lines) first.inner (g.O.Sink.device c.args.out.now) now.inner (g.O.Sink.device c.read_device-end.new.to) w piece why in
    let old = g.I.Source.device c.args.input.now in
    let new = g.I.Source.device c.read_device-end.new.source in
    let ends = inner_ends (StartsLines (shown_as g.M.Part.kind g.M.ShownMessage.word g.M.ShownMessage.lines)) Goes Stops first now c.args.max_reads old.counts new.counts new.bytes h.0 c.read_device-end.result h.2 in
    let fresh : IsFreshExporter (shown_as g.M.Part.kind g.M.ShownMessage.word g.M.ShownMessage.lines) first.inner c.args.framing c.args.limit = subst (λ (d : Exporter g.row.M.Denot). IsFreshExporter (shown_as g.M.Part.kind g.M.ShownMessage.word g.M.ShownMessage.lines) d c.args.framing c.args.limit) (sym c.new-counter.ensures.inner) (record { represents = c.new-2.ensures; limit_is = refl; count = refl; messages = c.new-3.ensures.items; lines = c.new-5.ensures.held; sent = c.new-5.ensures.sent }) in
    exports_outcome (shown_as g.M.Part.kind g.M.ShownMessage.word g.M.ShownMessage.lines) c.args.framing c.args.limit c.args.max_reads c.requires old new (g.O.Sink.device c.args.out.now) (g.O.Sink.device c.read_device-end.new.to) (g.E.Sink.device c.args.err.now) first.inner now.inner fresh h.0 h.1 c.read_device-end.result c.in-Ok.end c.line_of-line.result (g.O.Sink.device c.finish.new.out) (g.E.Sink.device c.finish.new.err) c.finish.result ends (sym c.ended.ensures ∙ c.in-Ok.is) c.finish.ensures
    (λ most within. line_known (StartsLines (shown_as g.M.Part.kind g.M.ShownMessage.word g.M.ShownMessage.lines)) Goes Stops first now c.args.max_reads old.counts new.counts new.bytes h.0 c.requires c.args.framing (λ is. ((c.args.limit, of_lines (λ (framing : Framing). IsFreshExporter (shown_as g.M.Part.kind g.M.ShownMessage.word g.M.ShownMessage.lines) first.inner framing c.args.limit) c.args.framing is fresh), c.new-counter.ensures.fresh (c.counts_lines.ensures ∙ is))) now.inner.reading.used c.line_of-line.result most c.read_device-end.result h.2 within (rw c.used.ensures.count at c.line_of-line.ensures))

pub returns-in-Err-NoLine : goal.returns-in-Err-NoLine
returns-in-Err-NoLine g c =
    let h = c.read_device-end.ensures in
    let first = c.new-counter.result in
    let now = c.read_device-end.new.consumer in
    let Goes : List ℕ → Type 0 = λ w. ExportGoes (shown_as g.M.Part.kind g.M.ShownMessage.word g.M.ShownMessage.lines) first.inner (g.O.Sink.device c.args.out.now) now.inner (g.O.Sink.device c.read_device-end.new.to) w in
    let Stops : List ℕ → List ℕ → ExportStop → Type 0 = λ w piece why. ExportStops (shown_as g.M.Part.kind g.M.ShownMessage.word g.M.ShownMessage.lines) first.inner (g.O.Sink.device c.args.out.now) now.inner (g.O.Sink.device c.read_device-end.new.to) w piece why in
    let old = g.I.Source.device c.args.input.now in
    let new = g.I.Source.device c.read_device-end.new.source in
    let ends = inner_ends (StartsLines (shown_as g.M.Part.kind g.M.ShownMessage.word g.M.ShownMessage.lines)) Goes Stops first now c.args.max_reads old.counts new.counts new.bytes h.0 c.read_device-end.result h.2 in
    let fresh : IsFreshExporter (shown_as g.M.Part.kind g.M.ShownMessage.word g.M.ShownMessage.lines) first.inner c.args.framing c.args.limit = subst (λ (d : Exporter g.row.M.Denot). IsFreshExporter (shown_as g.M.Part.kind g.M.ShownMessage.word g.M.ShownMessage.lines) d c.args.framing c.args.limit) (sym c.new-counter.ensures.inner) (record { represents = c.new-2.ensures; limit_is = refl; count = refl; messages = c.new-3.ensures.items; lines = c.new-5.ensures.held; sent = c.new-5.ensures.sent }) in
    exports_refused (shown_as g.M.Part.kind g.M.ShownMessage.word g.M.ShownMessage.lines) c.args.framing c.args.limit c.args.max_reads c.requires old new (g.O.Sink.device c.args.out.now) (g.O.Sink.device c.read_device-end.new.to) (g.E.Sink.device c.args.err.now) first.inner now.inner fresh h.0 h.1 c.read_device-end.result (g.E.Sink.device c.tell_refused.new.err) c.in-Err-NoLine.index c.in-Err-NoLine.why c.tell_refused.result ends
    (rw c.in-Err-NoLine.field-0-is at (sym c.ended.ensures ∙ c.in-Err-NoLine.is)) (rw (c.word.ensures.text, c.in-Err-NoLine.field-0-is) at c.tell_refused.ensures.told) c.tell_refused.ensures.status

pub returns : goal.returns
returns g c =
    let h = c.read_device-end.ensures in
    let first = c.new-counter.result in
    let now = c.read_device-end.new.consumer in
    let Goes : List ℕ → Type 0 = λ w. ExportGoes (shown_as g.M.Part.kind g.M.ShownMessage.word g.M.ShownMessage.lines) first.inner (g.O.Sink.device c.args.out.now) now.inner (g.O.Sink.device c.read_device-end.new.to) w in
    let Stops : List ℕ → List ℕ → ExportStop → Type 0 = λ w piece why. ExportStops (shown_as g.M.Part.kind g.M.ShownMessage.word g.M.ShownMessage.lines) first.inner (g.O.Sink.device c.args.out.now) now.inner (g.O.Sink.device c.read_device-end.new.to) w piece why in
    let old = g.I.Source.device c.args.input.now in
    let new = g.I.Source.device c.read_device-end.new.source in
    let ends = inner_ends (StartsLines (shown_as g.M.Part.kind g.M.ShownMessage.word g.M.ShownMessage.lines)) Goes Stops first now c.args.max_reads old.counts new.counts new.bytes h.0 c.read_device-end.result h.2 in
    let fresh : IsFreshExporter (shown_as g.M.Part.kind g.M.ShownMessage.word g.M.ShownMessage.lines) first.inner c.args.framing c.args.limit = subst (λ (d : Exporter g.row.M.Denot). IsFreshExporter (shown_as g.M.Part.kind g.M.ShownMessage.word g.M.ShownMessage.lines) d c.args.framing c.args.limit) (sym c.new-counter.ensures.inner) (record { represents = c.new-2.ensures; limit_is = refl; count = refl; messages = c.new-3.ensures.items; lines = c.new-5.ensures.held; sent = c.new-5.ensures.sent }) in
    rw c.in-Err-Output.field-0-is (
    exports_cut (shown_as g.M.Part.kind g.M.ShownMessage.word g.M.ShownMessage.lines) c.args.framing c.args.limit c.args.max_reads c.requires old new (g.O.Sink.device c.args.out.now) (g.O.Sink.device c.read_device-end.new.to) (g.E.Sink.device c.args.err.now) first.inner now.inner fresh h.0 h.1 c.read_device-end.result (g.E.Sink.device c.args.err.now) c.in-Err-Output.fault ends
    (rw c.in-Err-Output.field-0-is at (sym c.ended.ensures ∙ c.in-Err-Output.is)) refl)
