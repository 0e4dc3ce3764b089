use Rattle.std.proofs.Common.{refl}
use Rattle.mesosev.proofs.run.end_without_memory.Goals as goal

pub returns : goal.returns
returns g c = (g.E.Sink.device c.args.err.now, c.out_of_memory-ended.result, (c.out_of_memory-ended.ensures, refl), rw c.is_closed.ensures at c.finish.ensures)
