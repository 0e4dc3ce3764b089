use Rattle.std.proofs.Common.{length}
use Rattle.mes_frame.proofs.Chunking.{Chunking}
use Rattle.mes_frame.proofs.chunk_writer.write_chunked.Given as goal

-- the chunks of the body before `rest` are written or buffered
abbrev pub invariant-loop-rest : goal.invariant-loop-rest
invariant-loop-rest g l = Chunking l.fn.most l.fn.body l.rest (g.W.Sink.device l.fn.writer).bytes (g.W.Sink.device l.writer).bytes (g.W.Sink.device l.fn.writer).counts (g.W.Sink.device l.writer).counts l.buffer.held.items l.buffer.sent

abbrev pub decreases-loop-rest : goal.decreases-loop-rest
decreases-loop-rest g l = length l.rest
