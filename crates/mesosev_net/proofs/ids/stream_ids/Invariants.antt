use Rattle.std.proofs.Common.{◌≡◌}
use Rattle.uuid.specs.Text.{by_index}
use Rattle.mesosev_net.specs.StreamIds.{id_at}
use Rattle.mesosev_net.proofs.ids.stream_ids.Given as goal

-- the ids made so far
abbrev pub invariant-loop-i : goal.invariant-loop-i
invariant-loop-i l = l.ids.items ≡ by_index l.i (id_at l.fn.first)
