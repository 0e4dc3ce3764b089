use Rattle.mes_double_http.proofs.LengthLemmas.{CountsDigits}
use Rattle.mes_double_http.proofs.content_length.length_of.Given as goal

abbrev pub invariant-loop-digit : goal.invariant-loop-digit
invariant-loop-digit l = CountsDigits l.value l.length l.digit-index
