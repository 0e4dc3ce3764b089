use Rattle.mesosev_c.proofs.DecoderLemmas.{takes_ended, takes_on, takes_last}
use Rattle.mesosev_c.proofs.event_decoder.EventDecoder.next.Goals as goal

pub returns-in-Ended : goal.returns-in-Ended
returns-in-Ended c = rw c.in-Ended.is (takes_ended c.args.self.now.used c.in-Ended.end c.args.piece.now c.answer.result c.answer.ensures)

pub returns-in-Some : goal.returns-in-Some
returns-in-Some c =
    rw (c.in-Going.is, c.unpacked-step.ensures) (takes_last c.args.self.now.used c.in-Going.stream c.next.new.self c.args.piece.now c.next.result.used c.next.result.out c.saturating_add-self.result
    c.next.ensures.says c.next.ensures.before c.next.ensures.more c.next.ensures.some c.next.ensures.used (rw c.unpacked-step.ensures at c.saturating_add-self.ensures) c.in-Some.end (rw c.unpacked-step.ensures at c.in-Some.ensures))

pub returns-in_default : goal.returns-in_default
returns-in_default c =
    rw (c.in-Going.is, c.unpacked-step.ensures) (takes_on c.args.self.now.used c.in-Going.stream c.next.new.self c.args.piece.now c.next.result.used c.next.result.out c.saturating_add-self.result
    c.next.ensures.says c.next.ensures.before c.next.ensures.more c.next.ensures.some c.next.ensures.used (rw c.unpacked-step.ensures at c.saturating_add-self.ensures) (rw c.unpacked-step.ensures at c.in_default.ensures))
