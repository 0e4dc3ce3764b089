use Rattle.mes_json.proofs.NextLemmas.{Counted}
use Rattle.mes_json.proofs.cursor.Items.count.Given as goal

abbrev pub invariant-loop-count : goal.invariant-loop-count
invariant-loop-count l = Counted l.self l.rest l.count
