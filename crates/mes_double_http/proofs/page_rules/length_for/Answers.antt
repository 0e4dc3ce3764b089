use Rattle.std.proofs.Common.{rules}
use Rattle.mes_double_http.proofs.PageRuleLemmas.{fault-length}
use Rattle.mes_double_http.proofs.page_rules.length_for.Goals as goal

pub returns-then-is_json : goal.returns-then-is_json
returns-then-is_json c = fault-length c.args.resource _ c.few_bytes.result c.in-Fault.is (search rules) c.few_bytes.ensures
