use Rattle.std.proofs.Common.{rules}
use Rattle.rand_core.specs.Steps.{stream_of}
use Rattle.rand_core.specs.Stream.{next_u64}
use Rattle.mes_double_faults.proofs.random.drawn.Goals as goal

pub returns : goal.returns
unfolding stream_of next_u64
returns c = search rules
