use Rattle.std.proofs.Common.{◌≡◌, take}
use Rattle.mes_double_live.specs.Opening.{ChangesBy, resending, unacknowledged}
use Rattle.mes_double_live.proofs.live.Live.resend_all.Given as goal

-- the test master is the same, and the first updates were sent again
abbrev pub invariant-loop-index : goal.invariant-loop-index
invariant-loop-index l = record {
  same : l.self.master ≡ l.fn.self.master;
  again : ChangesBy (resending l.fn.self.time (take l.index (unacknowledged l.fn.self.master))) l.fn.self l.self;
}
