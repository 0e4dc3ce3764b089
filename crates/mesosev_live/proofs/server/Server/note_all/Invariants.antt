use Rattle.mesosev_live.specs.Desks.{Keeps}
use Rattle.mesosev_live.proofs.server.Server.note_all.Given as goal

abbrev pub invariant-loop-turn : goal.invariant-loop-turn
invariant-loop-turn g l = Keeps g.D.Desk.follows l.fn.self.desk l.self.desk
