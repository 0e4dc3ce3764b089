use Rattle.std.proofs.Common.{refl}
use Rattle.mes_double_live.proofs.MoveLemmas.{moved, offers-move}
use Rattle.mes_double_live.proofs.live.Live.make_offer.Goals as goal

pub returns-in-Ok-push-clause-moves : goal.returns-in-Ok-push-clause-moves
returns-in-Ok-push-clause-moves c = moved _ _ _ _ c.self.view_is refl (offers-move _ _ _ _ c.in-Ok.ensures.ok)

pub returns-in-Ok-clause-moves : goal.returns-in-Ok-clause-moves
returns-in-Ok-clause-moves c = moved _ _ _ _ c.self.view_is refl (offers-move _ _ _ _ c.in-Ok.ensures.ok)
