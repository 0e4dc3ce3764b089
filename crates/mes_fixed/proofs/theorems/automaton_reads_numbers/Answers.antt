use Rattle.mes_fixed.proofs.Grammar.{number_ends}
use Rattle.mes_fixed.proofs.theorems.automaton_reads_numbers.Goals as goal

pub returns : goal.returns
returns c = number_ends
