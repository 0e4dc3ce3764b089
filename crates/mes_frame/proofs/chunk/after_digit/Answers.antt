use Rattle.std.proofs.Common.{refl, inl, arith}
use Rattle.mes_frame.proofs.Chunks.{digit_kept, digit_too_large}
use Rattle.mes_frame.proofs.chunk.after_digit.Goals as goal

pub returns-then-size-clause-steps : goal.returns-then-size-clause-steps
returns-then-size-clause-steps c = λ x d represents. rw (c.fail.ensures.phase, c.fail.ensures.answer)
    (digit_too_large _ _ c.args.digit _ x d represents c.requires.remaining c.requires.digit.0 c.requires.digit.1 (omega arith), refl)

pub returns-clause-steps : goal.returns-clause-steps
returns-clause-steps c = λ x d represents. inl (rw c.from.ensures
    (digit_kept _ _ _ _ x d represents c.requires.remaining c.requires.digit.0 c.requires.digit.1 (omega arith)))
