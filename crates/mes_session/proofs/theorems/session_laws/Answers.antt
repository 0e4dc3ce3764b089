use Rattle.std.specs.List.{fold}
use Rattle.mes_session.specs.History.{at_first, after}
use Rattle.mes_session.proofs.HistoryLemmas.{Represents-some, Represents-unique}
use Rattle.mes_session.proofs.LeftLemmas.{in-hand, in-owed}
use Rattle.mes_session.proofs.ReplayLemmas.{refused-once}
use Rattle.mes_session.proofs.theorems.session_laws.Goals as goal

pub returns-clause-some : goal.returns-clause-some
returns-clause-some c = λ h. (fold after at_first h, Represents-some h)

pub returns-clause-one : goal.returns-clause-one
returns-clause-one c = Represents-unique

pub returns-clause-refused : goal.returns-clause-refused
returns-clause-refused c = refused-once c.refusal_laws.ensures

pub returns-clause-hand : goal.returns-clause-hand
returns-clause-hand c = in-hand

pub returns-clause-owed : goal.returns-clause-owed
returns-clause-owed c = in-owed
