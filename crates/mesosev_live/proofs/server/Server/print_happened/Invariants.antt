use Rattle.mesosev_live.specs.Desks.{Keeps}
use Rattle.mesosev_live.proofs.server.Server.print_happened.Given as goal

abbrev pub invariant-loop-fault : goal.invariant-loop-fault
invariant-loop-fault g l = Keeps g.D.Desk.follows l.fn.self.desk l.self.desk
