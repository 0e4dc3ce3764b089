use Rattle.std.proofs.Common.{◌≡◌, length}
use Rattle.mes_stream.proofs.ReadLemmas.{Reads}
use Rattle.mes_stream.proofs.read_loop.read_device.Given as goal
use Rattle.mes_stream.specs.declared.limits.TheConstants.{MAX_READ}

abbrev pub invariant-reads : goal.invariant-reads
invariant-reads g l =
    (length l.buffer ≡ MAX_READ)
    × Reads (g.C.Consumer.goes l.fn.consumer l.fn.to l.consumer l.to) (g.S.Source.device l.fn.source).bytes (g.S.Source.device l.source).bytes (g.S.Source.device l.fn.source).counts (g.S.Source.device l.source).counts l.counter
