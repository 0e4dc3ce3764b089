use Rattle.mes_double_live.proofs.LaunchLemmas.{two-agents-at}
use Rattle.mes_double_live.proofs.taken_offers.TakenOffers.are_of_one_agent.Goals as goal

pub returns : goal.returns
returns c = let (o, at, is) = c.first_agent.ensures in λ off. two-agents-at c.args.self.now o _ at is (c.are_of.ensures off)
