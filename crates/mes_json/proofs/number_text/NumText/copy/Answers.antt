use Rattle.mes_json.proofs.number_text.NumText.copy.Goals as goal

pub invariant_of-result : goal.invariant_of-result
invariant_of-result c = rw c.in_ok-copy.ensures.ok c.self.invariant
