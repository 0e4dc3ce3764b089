use Rattle.std.proofs.Common.{◌≡◌, ℕ, List, [], sym, ◌∙◌, subst, arith}
use Rattle.mes_msg.specs.Texts.{IsTextOf}
use Rattle.mes_stream.specs.MessageData.{HoldsData}
use Rattle.mes_stream.specs.Reading.{ReadingRepresents}
use Rattle.mes_stream.specs.RecordValues.{IsRefused}
use Rattle.mes_stream.specs.Refusals.{IsMessageRefusal}
use Rattle.mes_stream.specs.declared.counted_reader.ReadingStop.{ReadingStop}
use Rattle.mes_stream.specs.declared.stream_reader.Framing.{Framing}
use Rattle.mes_stream.proofs.ReadingLemmas.{gathers_none}
use Rattle.mesosev_stream.specs.Converting.{Gathers, StartsLines, StopsGathering}
use Rattle.mesosev_stream.specs.Messages.{shown_as}
use Rattle.mesosev_stream.specs.declared.gatherer.Gatherer.{Gatherer}
use Rattle.mesosev_stream.specs.declared.limits.TheConstants.{MAX_READS}
use Rattle.mesosev_stream.proofs.GatherLemmas.{reads_all}
use Rattle.mesosev_stream.proofs.LineNumberLemmas.{counter_start, inner_ends, line_known, of_lines}
use Rattle.mesosev_stream.proofs.gatherer.read_all.Goals as goal

pub read_device-end-requires : goal.read_device-end-requires
read_device-end-requires g c = counter_start (λ (d : Gatherer g.row.M.Denot). StartsLines (shown_as g.M.Part.kind g.M.ShownMessage.word g.M.ShownMessage.lines) d.reading) c.new-counter.result (gathers_none HoldsData (IsTextOf g.M.Part.kind) (IsRefused (IsTextOf g.M.Part.kind) (IsMessageRefusal g.M.Part.kind)) c.new-counter.result.inner.reading c.args.messages.now.items)

pub returns : goal.returns
returns g c =
    let h = c.read_device-end.ensures in
    let first = c.new-counter.result in
    let now = c.read_device-end.new.consumer in
    let start = c.args.messages.now.items in
    let to = c.read_device-end.new.to.items in
    let Goes : List ℕ → Type 0 = λ w. Gathers (shown_as g.M.Part.kind g.M.ShownMessage.word g.M.ShownMessage.lines) first.inner.reading start now.inner.reading to w in
    let Stops : List ℕ → List ℕ → ReadingStop → Type 0 = λ w piece why. StopsGathering (shown_as g.M.Part.kind g.M.ShownMessage.word g.M.ShownMessage.lines) first.inner.reading start now.inner.reading to w piece why in
    let old = g.I.Source.device c.args.input.now in
    let new = g.I.Source.device c.read_device-end.new.source in
    let ends = inner_ends (λ (d : Gatherer g.row.M.Denot). StartsLines (shown_as g.M.Part.kind g.M.ShownMessage.word g.M.ShownMessage.lines) d.reading) Goes Stops first now MAX_READS old.counts new.counts new.bytes h.0 c.read_device-end.result h.2 in
    let fresh : ReadingRepresents HoldsData (IsTextOf g.M.Part.kind) first.inner.reading c.args.framing c.args.limit [] [] = subst (λ (d : Gatherer g.row.M.Denot). ReadingRepresents HoldsData (IsTextOf g.M.Part.kind) d.reading c.args.framing c.args.limit [] []) (sym c.new-counter.ensures.inner) c.new-reading.ensures in
    reads_all (shown_as g.M.Part.kind g.M.ShownMessage.word g.M.ShownMessage.lines) c.args.framing c.args.limit old new first.inner.reading now.inner.reading start to c.finish.new.values.items fresh h.0 h.1 c.line_of-line.result c.finish.result c.read_device-end.result ends c.finish.ensures.means
    (λ most within. line_known (λ (d : Gatherer g.row.M.Denot). StartsLines (shown_as g.M.Part.kind g.M.ShownMessage.word g.M.ShownMessage.lines) d.reading) Goes Stops first now MAX_READS old.counts new.counts new.bytes h.0 (omega arith) c.args.framing (λ is. ((c.args.limit, of_lines (λ (framing : Framing). ReadingRepresents HoldsData (IsTextOf g.M.Part.kind) first.inner.reading framing c.args.limit [] []) c.args.framing is fresh), c.new-counter.ensures.fresh (c.counts_lines.ensures ∙ is))) now.inner.reading.used c.line_of-line.result most c.read_device-end.result h.2 within (rw c.used.ensures.count at c.line_of-line.ensures))
