use Rattle.std.proofs.Common.{rules, inl, inr}
use Rattle.mes_double_http.proofs.FirstLemmas.{found_pending, pending_body, refused_may}
use Rattle.mes_double_http.proofs.request_reader.cut_off.Goals as goal

pub returns-in-Ok-Some-clause-head : goal.returns-in-Ok-Some-clause-head
returns-in-Ok-Some-clause-head c = λ may. absurd (found_pending c.args.bytes.now c.in-Ok-Some.field-0-0 (search rules) may)

pub returns-in-Ok-None-clause-body : goal.returns-in-Ok-None-clause-body
returns-in-Ok-None-clause-body c = λ body. absurd (pending_body c.args.bytes.now (search rules) body)

pub returns-in-Err-clause-head : goal.returns-in-Err-clause-head
returns-in-Err-clause-head c = λ may. absurd (refused_may c.in-Err.fault c.args.bytes.now (search rules) (inl may))

pub returns-in-Err-clause-body : goal.returns-in-Err-clause-body
returns-in-Err-clause-body c = λ body. absurd (refused_may c.in-Err.fault c.args.bytes.now (search rules) (inr body))
