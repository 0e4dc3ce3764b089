use Rattle.std.proofs.Common.{rules, subst, sym}
use Rattle.mes_double_http.specs.Requests.{ReportsLength}
use Rattle.mes_double_http.proofs.request.announced_by.Goals as goal

pub returns-in-None : goal.returns-in-None
returns-in-None c = (
  c.requires.head,
  c.requires.is,
  (search rules, λ n reports. c.in-None.ensures n (subst (λ ps. ReportsLength ps n) (sym c.requires.at.fields) reports)),
)
