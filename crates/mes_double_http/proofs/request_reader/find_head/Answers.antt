use Rattle.std.proofs.Common.{rules, sym, subst}
use Rattle.mes_double_http.specs.Received.{RefusesHead}
use Rattle.mes_double_http.proofs.ReceivedLemmas.{request-all, refuses-pends, refuses-none, pends-all}
use Rattle.mes_double_http.proofs.request_reader.find_head.Goals as goal

pub returns-in-Ok-Some : goal.returns-in-Ok-Some
returns-in-Ok-Some c = request-all c.args.bytes.now c.min.result c.parse_head.new.headers _ (search rules)

pub returns-then-front-eq-MAX_HEAD : goal.returns-then-front-eq-MAX_HEAD
returns-then-front-eq-MAX_HEAD c = refuses-pends c.args.bytes.now c.min.result (search rules) (search rules) (search rules)

pub returns-else-front-eq-MAX_HEAD : goal.returns-else-front-eq-MAX_HEAD
returns-else-front-eq-MAX_HEAD c = pends-all c.args.bytes.now c.min.result (search rules) (search rules) (search rules)

pub returns-in-Err : goal.returns-in-Err
returns-in-Err c = subst (λ f. RefusesHead f c.args.bytes.now) (sym c.in-Err.ensures.0) (refuses-none c.args.bytes.now c.min.result (search rules) c.in-Err.ensures.1)
