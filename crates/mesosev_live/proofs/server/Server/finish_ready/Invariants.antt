use Rattle.mesosev_live.specs.Desks.{Keeps}
use Rattle.mesosev_live.proofs.server.Server.finish_ready.Given as goal

abbrev pub invariant-loop-event : goal.invariant-loop-event
invariant-loop-event g l = Keeps g.D.Desk.follows l.fn.self.desk l.self.desk
