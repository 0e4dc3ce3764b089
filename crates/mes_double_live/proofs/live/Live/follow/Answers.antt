use Rattle.std.proofs.Common.{ap, refl}
use Rattle.mes_double_live.specs.Calling.{demanded_by}
use Rattle.std.proofs.lemmas.Result.{on_ok_weaker}
use Rattle.mes_double_live.proofs.OpenLemmas.{begins-sending}
use Rattle.mes_double_live.proofs.StepLemmas.{same, steps-same, push-last}
use Rattle.mes_double_live.proofs.live.Live.follow.Goals as goal

pub returns-in_ok-copy-in-Message-clause-begins : goal.returns-in_ok-copy-in-Message-clause-begins
returns-in_ok-copy-in-Message-clause-begins c = on_ok_weaker _ (begins-sending _ _ _ (ap demanded_by c.in-Message.is)) (push-last _ _ _ _ _ tt tt (steps-same _ _ (same _ _ refl)) c.push.ensures.pushed)
