use Rattle.std.proofs.Common.{refl}
use Rattle.mesosev.proofs.run.perform.Goals as goal

pub returns-in-Show : goal.returns-in-Show
returns-in-Show g c = rw c.in-Show.is c.show.ensures

pub returns-in-Convert : goal.returns-in-Convert
returns-in-Convert g c = rw c.in-Convert.is (c.convert_all.result, c.convert_all.ensures, refl)

pub returns-in-Replay : goal.returns-in-Replay
returns-in-Replay g c = rw c.in-Replay.is c.replay_log.ensures

pub returns-in-Relog : goal.returns-in-Relog
returns-in-Relog g c = rw c.in-Relog.is (c.relog.result, c.relog.ensures, refl)

pub returns-in-Serve : goal.returns-in-Serve
returns-in-Serve g c = rw c.in-Serve.is (c.serve.ensures, refl)

pub returns-in-Master : goal.returns-in-Master
returns-in-Master g c = rw c.in-Master.is (c.master.ensures, refl)

pub returns-in-Subscribe : goal.returns-in-Subscribe
returns-in-Subscribe g c = rw c.in-Subscribe.is (c.subscribe_to.ensures _)

pub returns-in-Loopback : goal.returns-in-Loopback
returns-in-Loopback g c = rw c.in-Loopback.is (c.loopback.ensures, refl)
