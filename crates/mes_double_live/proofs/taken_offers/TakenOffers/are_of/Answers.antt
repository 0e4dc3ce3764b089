use Rattle.std.proofs.Common.{◌∙◌, sym}
use Rattle.mes_double_live.proofs.LaunchLemmas.{of-other}
use Rattle.mes_double_live.proofs.taken_offers.TakenOffers.are_of.Goals as goal

pub returns-then-not-is_of : goal.returns-then-not-is_of
returns-then-not-is_of c =
    let (o, at, is) = c.is_of.ensures in λ off. of-other c.args.agent.now c.args.self.now c.loop-index.index o at (sym is ∙ c.if-not-is_of.true)
