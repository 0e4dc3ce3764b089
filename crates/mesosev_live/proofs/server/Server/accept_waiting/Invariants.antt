use Rattle.std.proofs.Common.{◌≡◌}
use Rattle.mesosev_live.proofs.server.Server.accept_waiting.Given as goal

abbrev pub invariant-loop : goal.invariant-loop
invariant-loop g l = l.self.desk ≡ l.fn.self.desk
