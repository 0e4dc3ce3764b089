use Rattle.std.proofs.Common.{inr, refl}
use Rattle.mesosev_session.proofs.text_session.TextSession.acknowledge.Goals as goal

pub returns-in-Err-clause-err : goal.returns-in-Err-clause-err
returns-in-Err-clause-err c = inr (c.in_ok-call.call, c.in_ok-call.ensures.ok, inr (c.in-Err.refusal, c.in-Err.ensures.err, refl))
