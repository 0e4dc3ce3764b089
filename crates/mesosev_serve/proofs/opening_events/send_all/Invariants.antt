use Rattle.std.proofs.Common.{◌≡◌, take}
use Rattle.mesosev_serve.specs.Opening.{so_far, and_all_given}
use Rattle.mesosev_serve.proofs.opening_events.send_all.Given as goal

abbrev pub invariant-loop-event : goal.invariant-loop-event
invariant-loop-event l =
    so_far l.sent l.master ≡ and_all_given (so_far l.initial.sent l.initial.master) (take l.event-index l.given)
