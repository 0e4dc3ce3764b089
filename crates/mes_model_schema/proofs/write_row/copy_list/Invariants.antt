use Rattle.std.proofs.Common.{◌≡◌, take}
use Rattle.mes_model_schema.proofs.write_row.copy_list.Given as goal

abbrev pub invariant-loop-value : goal.invariant-loop-value
invariant-loop-value g l = l.copies.items ≡ take l.value-index l.value-items
