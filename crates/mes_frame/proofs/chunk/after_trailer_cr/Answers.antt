use Rattle.std.proofs.Common.{inl}
use Rattle.mes_frame.proofs.Chunks.{trailer_ends}
use Rattle.mes_frame.proofs.chunk.after_trailer_cr.Goals as goal

pub returns-clause-steps : goal.returns-clause-steps
returns-clause-steps c = λ x d represents. inl (rw c.if-byte-ne10.false (trailer_ends _ x d represents c.if-used-ge-MAX_TRAILERS.false))
