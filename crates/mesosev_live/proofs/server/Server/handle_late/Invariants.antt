use Rattle.mesosev_live.specs.Desks.{Keeps}
use Rattle.mesosev_live.proofs.server.Server.handle_late.Given as goal

abbrev pub invariant-loop-place : goal.invariant-loop-place
invariant-loop-place g l = Keeps g.D.Desk.follows l.fn.self.desk l.self.desk
