use Rattle.mes_double_http.proofs.FieldLemmas.{Follows}
use Rattle.mes_double_http.proofs.fields.find_field.Given as goal

abbrev pub invariant-loop-header : goal.invariant-loop-header
invariant-loop-header l = Follows l.found l.name l.bytes l.headers l.header-index
