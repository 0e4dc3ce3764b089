use Rattle.std.proofs.Common.{refl, arith}
use Rattle.mes_stream.specs.Reading.{nothing_ahead}
use Rattle.mesosev_stream.specs.Messages.{shown_as}
use Rattle.mesosev_stream.proofs.ExportReads.{exports_on, exports_part, exports_to, exports_until}
use Rattle.mesosev_stream.proofs.FollowReads.{messages_taken}
use Rattle.mesosev_stream.proofs.exporter.ExporterConsumer.consume.Goals as goal

pub returns-in-Err-clause-stop : goal.returns-in-Err-clause-stop
returns-in-Err-clause-stop g c = λ first start w h.
    let s = c.args.self.now in
    exports_part (shown_as g.M.Part.kind g.M.ShownMessage.word g.M.ShownMessage.lines) first s (record { alloc = s.alloc; limit = s.limit; reading = c.feed-fed.new.self; messages = c.feed-fed.new.values; text = c.export_messages.new.text; lines = c.export_messages.new.lines; count = s.count })
    (g.O.Sink.device start) (g.O.Sink.device c.args.out.now) (g.O.Sink.device c.export_messages.new.out) w c.args.piece.now c.feed-fed.new.values.items h c.feed-fed.result c.in-Err.fault
    (messages_taken (shown_as g.M.Part.kind g.M.ShownMessage.word g.M.ShownMessage.lines) s.reading c.feed-fed.new.self c.args.piece.now s.messages.items c.feed-fed.new.values.items c.feed-fed.result c.feed-fed.ensures.takes)
    (λ n is. rw c.as_slice.ensures.value at (c.in-Err.ensures n is))

pub returns-in-Ok-Until-clause-stop : goal.returns-in-Ok-Until-clause-stop
returns-in-Ok-Until-clause-stop g c = λ first start w h.
    let s = c.args.self.now in
    exports_until (shown_as g.M.Part.kind g.M.ShownMessage.word g.M.ShownMessage.lines) first s (record { alloc = s.alloc; limit = s.limit; reading = c.feed-fed.new.self; messages = c.feed-fed.new.values; text = c.export_messages.new.text; lines = c.export_messages.new.lines; count = s.count })
    (g.O.Sink.device start) (g.O.Sink.device c.args.out.now) (g.O.Sink.device c.export_messages.new.out) w c.args.piece.now c.feed-fed.new.values.items h c.feed-fed.result c.in-Ok-Until.index c.in-Ok-Until.why
    (messages_taken (shown_as g.M.Part.kind g.M.ShownMessage.word g.M.ShownMessage.lines) s.reading c.feed-fed.new.self c.args.piece.now s.messages.items c.feed-fed.new.values.items c.feed-fed.result c.feed-fed.ensures.takes)
    (λ n is. rw (c.as_slice.ensures.value, c.in-Ok-Until.field-0-is) at (c.in-Ok-Until.ensures n is))

pub returns-in-Ok-clause-more : goal.returns-in-Ok-clause-more
returns-in-Ok-clause-more g c = λ first start w h.
    let s = c.args.self.now in
    exports_on (shown_as g.M.Part.kind g.M.ShownMessage.word g.M.ShownMessage.lines) first s _ (g.O.Sink.device start) (g.O.Sink.device c.args.out.now) (g.O.Sink.device c.export_messages.new.out) w c.args.piece.now c.feed-fed.new.values.items h c.clear.ensures.items refl
    (rw c.in-Ok.is at (messages_taken (shown_as g.M.Part.kind g.M.ShownMessage.word g.M.ShownMessage.lines) s.reading c.feed-fed.new.self c.args.piece.now s.messages.items c.feed-fed.new.values.items c.feed-fed.result c.feed-fed.ensures.takes))
    (λ n is. rw (c.as_slice.ensures.value, c.in-Ok-All.field-0-is) at (c.in-Ok-All.ensures n is))

pub returns-in-Err-fed-clause-stop : goal.returns-in-Err-fed-clause-stop
returns-in-Err-fed-clause-stop g c = λ first start w h.
    let s = c.args.self.now in
    exports_to (shown_as g.M.Part.kind g.M.ShownMessage.word g.M.ShownMessage.lines) first s _ (g.O.Sink.device start) (g.O.Sink.device c.args.out.now) (g.O.Sink.device c.export_messages.new.out) w c.args.piece.now c.feed-fed.new.values.items h c.in-Err-fed.stop c.clear.ensures.items refl
    (rw c.in-Err-fed.is at (messages_taken (shown_as g.M.Part.kind g.M.ShownMessage.word g.M.ShownMessage.lines) s.reading c.feed-fed.new.self c.args.piece.now s.messages.items c.feed-fed.new.values.items c.feed-fed.result c.feed-fed.ensures.takes))
    (λ framing limit v values represents. let within = rw c.in-Err-fed.is at (c.feed-fed.ensures.within nothing_ahead framing limit v values represents) in omega (arith, within))
    (λ n is. rw (c.as_slice.ensures.value, c.in-Ok-All.field-0-is) at (c.in-Ok-All.ensures n is))
