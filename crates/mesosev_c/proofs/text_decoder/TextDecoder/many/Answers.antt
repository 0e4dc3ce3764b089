use Rattle.std.proofs.Common.{◌∙◌, arith, ap, length, length-drop}
use Rattle.std.proofs.lemmas.List.{take_rest}
use Rattle.mesosev_c.proofs.BatchLemmas.{stops_there, so_far_more}
use Rattle.mesosev_c.proofs.text_decoder.TextDecoder.many.Goals as goal

pub returns-in_default : goal.returns-in_default
returns-in_default c =
    stops_there c.args.self.now _ c.loop-count.self.decoder c.args.piece.now c.args.room.now c.loop-count.room c.loop-count.used c.loop-count.count c.next-step.result.used c.status_of-status.result c.next-step.result.out
    c.loop-count.invariant.reported (omega (arith, c.loop-count-test.true, c.loop-count.auto.room)) (rw (take_rest c.args.piece.now c.loop-count.used) at c.next-step.ensures) c.in_default.not-Event c.status_of-status.ensures c.loop-count.invariant.texts

pub loop-count-preserved : goal.loop-count-preserved
loop-count-preserved c =
    let rest = take_rest c.args.piece.now c.loop-count.used in
    let takes = rw (rest, c.in-Event.is) at c.next-step.ensures in
    record {
      within = let inside = c.next-step.ensures.within in omega (arith, inside, c.loop-count.invariant.within, ap length rest, length-drop c.loop-count.used c.args.piece.now);
      fits = omega (arith, c.loop-count-test.true, c.add.auto.room);
      texts = c.add.ensures.keeps.texts ∙ c.loop-count.invariant.texts;
      reported = so_far_more c.args.self.now.texts c.args.self.now.decoder c.loop-count.self.decoder c.next-step.new.self c.loop-count.self.text.items c.add.new.self.text.items c.args.piece.now c.args.room.now c.loop-count.room c.add.new.room
          c.loop-count.used c.loop-count.count c.next-step.result.used c.in-Event.event c.loop-count.invariant.reported (omega (arith, c.loop-count-test.true, c.loop-count.auto.room)) takes _ _ c.loop-count.invariant.texts c.add.ensures.keeps.decoder c.add.ensures.adds;
    }
