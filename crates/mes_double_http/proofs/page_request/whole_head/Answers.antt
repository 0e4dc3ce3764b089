use Rattle.std.proofs.Common.{rules}
use Rattle.mes_double_http.proofs.PageLemmas.{none-pends, none-begins}
use Rattle.mes_double_http.proofs.page_request.whole_head.Goals as goal

pub returns-in-Ok-None : goal.returns-in-Ok-None
returns-in-Ok-None c = λ h begins. none-pends c.args.bytes.now c.min.result h (search rules) (search rules) begins

pub returns-in-Err : goal.returns-in-Err
returns-in-Err c = λ h begins. none-begins c.args.bytes.now c.min.result h (search rules) c.in-Err.ensures.1 begins
