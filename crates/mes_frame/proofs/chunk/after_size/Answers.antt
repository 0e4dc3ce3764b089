use Rattle.std.proofs.Common.{◌≡◌, ◌<◌, ◌≤◌, refl, inl, arith}
use Rattle.std.proofs.lemmas.Bool.Decides.{nat_tests}
use Rattle.std.specs.Char.{digit_value}
use Rattle.mes_frame.specs.Chunk.{BeginsExtension}
use Rattle.mes_frame.proofs.Chunks.{size_ends, extension_begins, size_shows}
use Rattle.mes_frame.proofs.chunk.after_size.Goals as goal
use Rattle.mes_frame.proofs.chunk.after_size.Goals.{in_default-via-in-59+else-count-gt0-2, in_default-via-in_default+then-byte-lt48, in_default-via-in_default+else-byte-lt48+else-byte-lt58+then-byte-lt65, in_default-via-in_default+else-byte-lt48+else-byte-lt58+else-byte-lt65+else-byte-lt71+then-byte-lt97, in_default-via-in_default+else-byte-lt48+else-byte-lt58+else-byte-lt65+else-byte-lt71+else-byte-lt97+else-byte-lt103}

pub returns-then-count-gt0-clause-steps : goal.returns-then-count-gt0-clause-steps
returns-then-count-gt0-clause-steps c = λ x d represents. inl (rw c.if-byte-eq13.true (size_ends _ _ x d represents c.if-count-gt0.true))

pub returns-in-59-clause-steps : goal.returns-in-59-clause-steps
returns-in-59-clause-steps c = λ x d represents.
    let begins : BeginsExtension c.args.byte = grind (arith, c.in-59.is) in
    inl (extension_begins _ _ _ x d represents c.if-count-gt0-2.true c.if-count-ge-MAX_CHUNK_LINE.false begins)

pub returns-in_default-clause-steps : goal.returns-in_default-clause-steps
returns-in_default-clause-steps c = λ x d represents.
    let other : 16 ≤ digit_value c.args.byte = elim c.in_default.branch [
      | in_default-via-in-59+else-count-gt0-2 w ↦ grind (arith, nat_tests)
      | in_default-via-in_default+then-byte-lt48 w ↦ grind (arith, nat_tests)
      | in_default-via-in_default+else-byte-lt48+else-byte-lt58+then-byte-lt65 w ↦ grind (arith, nat_tests)
      | in_default-via-in_default+else-byte-lt48+else-byte-lt58+else-byte-lt65+else-byte-lt71+then-byte-lt97 w ↦ grind (arith, nat_tests)
      | in_default-via-in_default+else-byte-lt48+else-byte-lt58+else-byte-lt65+else-byte-lt71+else-byte-lt97+else-byte-lt103 w ↦ grind (arith, nat_tests)
    ] in
    let begins : 0 < c.args.count → BeginsExtension c.args.byte → ⊥ = elim c.in_default.branch [
      | in_default-via-in-59+else-count-gt0-2 w ↦ λ some is. grind arith
      | in_default-via-in_default+then-byte-lt48 w ↦ λ some is. grind arith
      | in_default-via-in_default+else-byte-lt48+else-byte-lt58+then-byte-lt65 w ↦ λ some is. grind arith
      | in_default-via-in_default+else-byte-lt48+else-byte-lt58+else-byte-lt65+else-byte-lt71+then-byte-lt97 w ↦ λ some is. grind arith
      | in_default-via-in_default+else-byte-lt48+else-byte-lt58+else-byte-lt65+else-byte-lt71+else-byte-lt97+else-byte-lt103 w ↦ λ some is. grind arith
    ] in
    let cr : 0 < c.args.count → c.args.byte ≡ 13 → ⊥ = λ some is. grind (arith, c.else-byte-eq13.either) in
    rw (c.fail-in_default.ensures.phase, c.fail-in_default.ensures.answer)
    (size_shows _ _ _ x d represents c.if-count-ge-MAX_CHUNK_LINE.false other begins cr, refl)
