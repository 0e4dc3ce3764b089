use Rattle.std.proofs.Common.{inl, inr, arith}
use Rattle.mes_frame.specs.Chunk.{IsExtensionByte}
use Rattle.mes_frame.proofs.Chunks.{extension_kept}
use Rattle.mes_frame.proofs.chunk.after_extension.Goals as goal
use Rattle.mes_frame.proofs.chunk.after_extension.Goals.{in-9-1, in_default+else-byte-lt32+then-byte-lt127, in_default+else-byte-lt32+else-byte-lt127+else-byte-lt128}

pub returns-in-9-clause-steps : goal.returns-in-9-clause-steps
returns-in-9-clause-steps c = λ x d represents.
    let is : IsExtensionByte c.args.byte = elim c.in-9-1.branch [
      | in-9-1 w ↦ inl (omega arith)
      | in_default+else-byte-lt32+then-byte-lt127 w ↦ inr (omega arith, λ e. omega arith, omega arith)
      | in_default+else-byte-lt32+else-byte-lt127+else-byte-lt128 w ↦ inr (omega arith, λ e. omega arith, omega arith)
    ] in
    inl (extension_kept _ _ _ x d represents c.if-count-ge-MAX_CHUNK_LINE.false is)
