use Rattle.std.proofs.Common.{inl, inr}
use Rattle.mesosev_net.proofs.both_ends.show.Goals as goal

pub returns-then-was_asked : goal.returns-then-was_asked
returns-then-was_asked g c = inr c.out_of_memory.ensures

pub returns-in-Ok : goal.returns-in-Ok
returns-in-Ok g c = inl c.show_from.ensures

pub returns-in-Err : goal.returns-in-Err
returns-in-Err g c = inr c.out_of_memory-in-Err.ensures
