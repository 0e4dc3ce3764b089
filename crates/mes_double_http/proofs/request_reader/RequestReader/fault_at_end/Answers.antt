use Rattle.std.proofs.Common.{rules}
use Rattle.mes_double_http.proofs.FirstLemmas.{nothing_body}
use Rattle.mes_double_http.proofs.request_reader.RequestReader.fault_at_end.Goals as goal

pub returns-then-is_empty-clause-body : goal.returns-then-is_empty-clause-body
returns-then-is_empty-clause-body c = λ body. absurd (nothing_body c.args.self.now c.left-left.result.now c.left-left.ensures (search rules) body)
