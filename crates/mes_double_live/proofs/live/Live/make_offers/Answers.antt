use Rattle.std.proofs.Common.{◌∙◌, ap}
use Rattle.mes_double_live.specs.Lives.{LiveState}
use Rattle.mes_double_live.proofs.MakeLemmas.{makes-more}
use Rattle.mes_double_live.proofs.MoveLemmas.{moves-then}
use Rattle.mes_double_live.proofs.live.Live.make_offers.Goals as goal

pub returns-in_err-make_offer_at-clause-moves : goal.returns-in_err-make_offer_at-clause-moves
returns-in_err-make_offer_at-clause-moves c = moves-then _ _ _ c.loop-index.invariant.moves c.make_offer_at.ensures.moves

pub loop-index-preserved : goal.loop-index-preserved
loop-index-preserved c = record {
  moves = moves-then _ _ _ c.loop-index.invariant.moves c.make_offer_at.ensures.moves;
  rest = c.make_offer_at.ensures.rest ∙ ap (λ (x : LiveState). record x { master = c.make_offer_at.new.self.master; cluster = c.make_offer_at.new.self.cluster }) c.loop-index.invariant.rest;
  tasks = c.in_ok-make_offer_at.ensures.tasks ∙ c.loop-index.invariant.tasks;
  made = makes-more _ _ _ _ _ c.loop-index.invariant.made c.in_ok-make_offer_at.ensures.made;
}
