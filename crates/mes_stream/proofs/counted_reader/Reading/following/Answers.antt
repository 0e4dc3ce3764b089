use Rattle.std.proofs.Common.{arith}
use Rattle.mes_stream.proofs.counted_reader.Reading.following.Goals as goal

pub returns : goal.returns
returns g c = λ ahead done used. (c.following.ensures.represents ahead.records done, omega (arith, used))
