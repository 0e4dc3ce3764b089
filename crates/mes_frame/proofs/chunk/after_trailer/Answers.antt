use Rattle.std.proofs.Common.{inl, arith}
use Rattle.mes_frame.specs.Chunk.{IsPlain}
use Rattle.mes_frame.proofs.Chunks.{trailer_kept}
use Rattle.mes_frame.proofs.chunk.after_trailer.Goals as goal

pub returns-in_default-2-clause-steps : goal.returns-in_default-2-clause-steps
returns-in_default-2-clause-steps c = λ x d represents.
    let plain : IsPlain c.args.byte = (λ e. omega arith, λ e. omega arith) in
    inl (trailer_kept _ _ _ x d represents c.if-used-ge-MAX_TRAILERS.false plain)
