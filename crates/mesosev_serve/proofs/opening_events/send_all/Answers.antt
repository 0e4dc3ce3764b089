use Rattle.std.proofs.lemmas.Result.{err_from_is_err_and}
use Rattle.mesosev_serve.specs.Opening.{so_far}
use Rattle.mesosev_serve.proofs.OpeningLemmas.{given_front}
use Rattle.mesosev_serve.proofs.opening_events.send_all.Goals as goal

pub returns-in_err-send-clause-err : goal.returns-in_err-send-clause-err
returns-in_err-send-clause-err c =
    let p = err_from_is_err_and c.from_residual.result c.from_residual.ensures.1 in
    rw p.1 (given_front (so_far c.args.sent.now c.args.master.now) (so_far c.loop-event.sent c.loop-event.master) c.args.given.now c.event-item.result
    c.loop-event.event-index c.send.new.master c.loop-event-test.true c.event-item.is c.loop-event.invariant c.in_err-send.ensures.err)
