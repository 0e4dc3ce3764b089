use Rattle.mesosev_live.specs.Desks.{Keeps}
use Rattle.mesosev_live.proofs.server.Server.write_waiting.Given as goal

abbrev pub invariant-loop : goal.invariant-loop
invariant-loop g l = Keeps g.D.Desk.follows l.fn.self.desk l.self.desk
