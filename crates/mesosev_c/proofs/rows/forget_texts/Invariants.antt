use Rattle.std.proofs.Common.{◌≡◌, ◌++◌, map, take, drop}
use Rattle.mesosev_c.specs.Rows.{without_text}
use Rattle.mesosev_c.proofs.rows.forget_texts.Given as goal

abbrev pub invariant-loop-row : goal.invariant-loop-row
invariant-loop-row l = l.rows ≡ map without_text (take l.row-index l.fn.rows) ++ drop l.row-index l.fn.rows
