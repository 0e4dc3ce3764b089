use Rattle.std.proofs.Common.{refl}
use Rattle.mes_frame.proofs.Chunks.{body_ends}
use Rattle.mes_frame.proofs.chunk.after_end_cr.Goals as goal

pub returns-clause-steps : goal.returns-clause-steps
returns-clause-steps c = λ x d represents. (rw c.if-byte-ne10.false (body_ends _ _ x d represents.2), represents.2.empty, refl)
