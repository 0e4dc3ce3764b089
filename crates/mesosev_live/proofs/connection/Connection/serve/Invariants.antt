use Rattle.std.specs.Prelude.{◌≡◌, length}
use Rattle.mesosev_live.specs.Desks.{Keeps}
use Rattle.mesosev_live.specs.Serving.{Serves}
use Rattle.mesosev_live.proofs.connection.Connection.serve.Given as goal

-- the requests that were served so far, one in each turn
abbrev pub invariant-loop : goal.invariant-loop
invariant-loop g l = record {
  kept : Keeps g.D.Desk.follows l.fn.desk l.desk;
  turns : Serves g.D.Desk.answers g.D.Desk.shows g.D.Desk.takes l.fn.self l.fn.desk l.served.items l.self l.desk;
  count : length l.served.items ≡ l.counter;
}
