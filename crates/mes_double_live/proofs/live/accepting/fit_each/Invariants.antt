use Rattle.std.specs.Prelude.{take}
use Rattle.mes_session_fit.specs.Fits.{Fits}
use Rattle.mes_double_live.proofs.live.accepting.fit_each.Given as goal

-- the first tasks fit
abbrev pub invariant-loop : goal.invariant-loop
invariant-loop l = Fits l.offers (take l.fitting.count l.plan.kept.items)
