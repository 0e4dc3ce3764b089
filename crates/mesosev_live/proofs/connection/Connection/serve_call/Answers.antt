use Rattle.std.proofs.Common.{refl, inl}
use Rattle.mesosev_live.proofs.ServedLemmas.{taken_next}
use Rattle.mesosev_live.proofs.connection.Connection.serve_call.Goals as goal

pub returns-in_ok-respond-in-Whole-clause-next : goal.returns-in_ok-respond-in-Whole-clause-next
returns-in_ok-respond-in-Whole-clause-next g c = (
  c.in-Whole.request,
  c.in-Whole.persistence,
  c.requires.serving,
  (c.requires.call, taken_next _ _ _ _ _ _ c.next.ensures.takes c.in-Whole.is c.respond.ensures.requests),
  c.in_ok-answered-in-Whole.ensures.by,
  c.in_ok-respond-in-Whole.ensures.out,
  c.in_ok-respond-in-Whole.ensures.phase,
)

pub returns-in-More-clause-next : goal.returns-in-More-clause-next
returns-in-More-clause-next g c = ((c.in-More.ensures.takes.0, refl, refl), refl, λ serving. inl c.in-More.ensures.takes.1)
