use Rattle.std.proofs.Common.{arith}
use Rattle.mes_stream.specs.Reading.{nothing_ahead}
use Rattle.mes_stream.proofs.counted_reader.Reading.new.Goals as goal

pub returns : goal.returns
returns g c = c.following.ensures nothing_ahead (omega arith) (omega arith)
