use Rattle.std.proofs.Common.{refl}
use Rattle.mes_double_live.proofs.WaitLemmas.{obeyed-is}
use Rattle.mes_double_live.proofs.live.Live.obeys.Goals as goal

pub returns-in-Other-clause-obeyed : goal.returns-in-Other-clause-obeyed
returns-in-Other-clause-obeyed c = λ on. obeyed-is _ _ _ _ _ _ _ c.in-Other.is c.as_str.ensures.text c.self.view_is on c.obey.ensures refl
