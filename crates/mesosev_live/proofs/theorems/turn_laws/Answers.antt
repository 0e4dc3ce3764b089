use Rattle.mesosev_live.proofs.ServedLemmas.{each_served}
use Rattle.mesosev_live.proofs.theorems.turn_laws.Goals as goal

pub returns : goal.returns
returns g c = each_served g.D.Desk.answers g.D.Desk.shows g.D.Desk.takes
