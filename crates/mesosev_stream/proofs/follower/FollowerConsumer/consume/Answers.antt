use Rattle.std.proofs.Common.{refl, arith}
use Rattle.mes_stream.specs.Reading.{nothing_ahead}
use Rattle.mesosev_stream.specs.Messages.{shown_as}
use Rattle.mesosev_stream.proofs.FollowReads.{messages_taken, follows_on, follows_to, follows_cut_off, follows_without}
use Rattle.mesosev_stream.proofs.follower.FollowerConsumer.consume.Goals as goal

pub returns-in-Err-clause-stop : goal.returns-in-Err-clause-stop
returns-in-Err-clause-stop g c = λ first start w h.
    follows_cut_off (shown_as g.M.Part.kind g.M.ShownMessage.word g.M.ShownMessage.lines) first c.args.self.now (record { detail = c.args.self.now.detail; reading = c.feed-fed.new.self; messages = c.feed-fed.new.values; text = c.print_messages.new.text; lines = c.print_messages.new.lines; number = c.args.self.now.number }) (g.O.Sink.device start) (g.O.Sink.device c.args.out.now) (g.O.Sink.device c.print_messages.new.out) w c.args.piece.now c.feed-fed.new.values.items h c.feed-fed.result c.in-Err.fault (messages_taken (shown_as g.M.Part.kind g.M.ShownMessage.word g.M.ShownMessage.lines) c.args.self.now.reading c.feed-fed.new.self c.args.piece.now c.args.self.now.messages.items c.feed-fed.new.values.items c.feed-fed.result c.feed-fed.ensures.takes)
    (λ n is. rw c.as_slice.ensures.value at (c.in-Err.ensures n is))

pub returns-in-Ok-NoMemory-clause-stop : goal.returns-in-Ok-NoMemory-clause-stop
returns-in-Ok-NoMemory-clause-stop g c = λ first start w h.
    follows_without (shown_as g.M.Part.kind g.M.ShownMessage.word g.M.ShownMessage.lines) first c.args.self.now (record { detail = c.args.self.now.detail; reading = c.feed-fed.new.self; messages = c.feed-fed.new.values; text = c.print_messages.new.text; lines = c.print_messages.new.lines; number = c.args.self.now.number }) (g.O.Sink.device start) (g.O.Sink.device c.args.out.now) (g.O.Sink.device c.print_messages.new.out) w c.args.piece.now c.feed-fed.new.values.items h c.feed-fed.result (messages_taken (shown_as g.M.Part.kind g.M.ShownMessage.word g.M.ShownMessage.lines) c.args.self.now.reading c.feed-fed.new.self c.args.piece.now c.args.self.now.messages.items c.feed-fed.new.values.items c.feed-fed.result c.feed-fed.ensures.takes)
    (λ n is. rw (c.as_slice.ensures.value, c.in-Ok-NoMemory.field-0-is) at (c.in-Ok-NoMemory.ensures n is))

pub returns-in-Ok-clause-more : goal.returns-in-Ok-clause-more
returns-in-Ok-clause-more g c = λ first start w h.
    follows_on (shown_as g.M.Part.kind g.M.ShownMessage.word g.M.ShownMessage.lines) first c.args.self.now _ (g.O.Sink.device start) (g.O.Sink.device c.args.out.now) (g.O.Sink.device c.print_messages.new.out) w c.args.piece.now c.feed-fed.new.values.items h c.clear.ensures.items refl (rw c.in-Ok.is at (messages_taken (shown_as g.M.Part.kind g.M.ShownMessage.word g.M.ShownMessage.lines) c.args.self.now.reading c.feed-fed.new.self c.args.piece.now c.args.self.now.messages.items c.feed-fed.new.values.items c.feed-fed.result c.feed-fed.ensures.takes))
    (λ n is. rw (c.as_slice.ensures.value, c.in-Ok-All.field-0-is) at (c.in-Ok-All.ensures n is))

pub returns-in-Err-fed-clause-stop : goal.returns-in-Err-fed-clause-stop
returns-in-Err-fed-clause-stop g c = λ first start w h.
    follows_to (shown_as g.M.Part.kind g.M.ShownMessage.word g.M.ShownMessage.lines) first c.args.self.now _ (g.O.Sink.device start) (g.O.Sink.device c.args.out.now) (g.O.Sink.device c.print_messages.new.out) w c.args.piece.now c.feed-fed.new.values.items h c.in-Err-fed.stop c.clear.ensures.items refl (rw c.in-Err-fed.is at (messages_taken (shown_as g.M.Part.kind g.M.ShownMessage.word g.M.ShownMessage.lines) c.args.self.now.reading c.feed-fed.new.self c.args.piece.now c.args.self.now.messages.items c.feed-fed.new.values.items c.feed-fed.result c.feed-fed.ensures.takes))
    (λ framing limit v values represents. let within = rw c.in-Err-fed.is at (c.feed-fed.ensures.within nothing_ahead framing limit v values represents) in omega (arith, within))
    (λ n is. rw (c.as_slice.ensures.value, c.in-Ok-All.field-0-is) at (c.in-Ok-All.ensures n is))
