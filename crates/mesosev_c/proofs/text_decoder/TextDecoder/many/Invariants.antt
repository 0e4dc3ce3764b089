use Rattle.std.proofs.Common.{◌≡◌, ◌-◌, ◌≤◌, length}
use Rattle.mesosev_c.proofs.BatchLemmas.{BatchSoFar}
use Rattle.mesosev_c.proofs.text_decoder.TextDecoder.many.Given as goal

abbrev pub invariant-loop-count : goal.invariant-loop-count
invariant-loop-count l = record {
  within : l.used ≤ length l.piece;
  fits : l.count ≤ length l.room;
  texts : l.self.texts ≡ l.fn.self.texts;
  reported : BatchSoFar l.fn.self.texts l.fn.self.decoder l.self.decoder l.self.text.items l.piece l.fn.room l.room l.used l.count;
}

abbrev pub decreases-loop-count : goal.decreases-loop-count
decreases-loop-count l = length l.room - l.count
