use Rattle.std.proofs.Common.{Some}
use Rattle.mes_double_http.proofs.rules.stream_required.Goals as goal

pub returns-in-Err : goal.returns-in-Err
returns-in-Err c = λ id names. c.in-Err.ensures.1 (Some id) names
