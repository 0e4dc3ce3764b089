use Rattle.std.proofs.Common.{◌≡◌, take}
use Rattle.mes_double_live.specs.Opening.{ChangesBy, sending}
use Rattle.mes_double_live.proofs.live.Live.send_all.Given as goal

-- the test master is the same, and the first events were sent
abbrev pub invariant-loop-event : goal.invariant-loop-event
invariant-loop-event l = record {
  same : l.self.master ≡ l.fn.self.master;
  sends : ChangesBy (sending l.fn.self.time (take l.event-index l.sent)) l.fn.self l.self;
}
