use Rattle.std.proofs.Common.{[], ◌∷◌, ◌++◌, ◌∙◌, subst, sym}
use Rattle.mes_json.specs.Reader.{state_view}
use Rattle.mes_json.specs.declared.limits.TheConstants.{MAX_NESTING}
use Rattle.mes_json.proofs.RunLemmas.{run_one}
use Rattle.mes_json.specs.declared.lexer.LexerState.{LexerState}
use Rattle.mes_json.specs.Lexer.{Represents, HasLexed}
use Rattle.mes_json.proofs.LexerLemmas.{state_at, reading_at, goes_on, refused_at, sticks, stays_faulty, byte_begins, unread_at}
use Rattle.mes_json.proofs.lexer.Lexer.push.Goals as goal

pub invariant_of-self : goal.invariant_of-self
invariant_of-self c = (
  _,
  goes_on _ _ _ c.step.new.self c.self.invariant.0 (c.args.byte ∷ []) (reading_at _ _ _ c.self.invariant.0 c.in-Reading.is c.self.invariant.1)
      c.saturating_add-self-inside.ensures (run_one MAX_NESTING (state_view c.in-Reading.reader) c.args.byte ∙ c.in-Ok.ensures.gives) c.in-Ok.ensures.fits,
)

pub returns-in-Ok-clause-lexed : goal.returns-in-Ok-clause-lexed
unfolding HasLexed
returns-in-Ok-clause-lexed c p h =
    goes_on _ _ _ c.step.new.self p (c.args.byte ∷ []) (reading_at _ _ _ p c.in-Reading.is (state_at _ _ _ p c.self.view_is h))
    c.saturating_add-self-inside.ensures (run_one MAX_NESTING (state_view c.in-Reading.reader) c.args.byte ∙ c.in-Ok.ensures.gives) c.in-Ok.ensures.fits

pub invariant_of-self-in-Err-Refused : goal.invariant_of-self-in-Err-Refused
invariant_of-self-in-Err-Refused c = (
  c.self.invariant.0 ++ c.args.byte ∷ [],
  subst (λ (k : LexerState). Represents c.self.inside.count k (c.self.invariant.0 ++ c.args.byte ∷ [])) (sym c.fail.ensures)
      (sticks _ c.in-Reading.reader c.self.invariant.0 c.args.byte c.in-Err-Refused.why (reading_at _ _ _ c.self.invariant.0 c.in-Reading.is c.self.invariant.1)
      (refused_at c.in-Err-Refused.field-0 c.in-Err-Refused.why (state_view c.in-Reading.reader) c.args.byte c.in-Err-Refused.field-0-is c.in-Err-Refused.ensures.gives)),
)

pub returns-in-Err-Refused-clause-lexed : goal.returns-in-Err-Refused-clause-lexed
unfolding HasLexed
returns-in-Err-Refused-clause-lexed c p h =
    subst (λ (k : LexerState). Represents c.self.inside.count k (p ++ c.args.byte ∷ [])) (sym c.fail.ensures)
    (sticks _ c.in-Reading.reader p c.args.byte c.in-Err-Refused.why (reading_at _ _ _ p c.in-Reading.is (state_at _ _ _ p c.self.view_is h))
    (refused_at c.in-Err-Refused.field-0 c.in-Err-Refused.why (state_view c.in-Reading.reader) c.args.byte c.in-Err-Refused.field-0-is c.in-Err-Refused.ensures.gives))

pub returns-in-Faulty-clause-lexed : goal.returns-in-Faulty-clause-lexed
unfolding HasLexed
returns-in-Faulty-clause-lexed c p h = stays_faulty _ _ _ p (c.args.byte ∷ []) c.in-Faulty.is (state_at _ _ _ p c.self.view_is h)

pub returns-in-Err-NoMemory-clause-begins : goal.returns-in-Err-NoMemory-clause-begins
returns-in-Err-NoMemory-clause-begins c p h memory =
    byte_begins _ c.in-Reading.reader p c.args.byte (reading_at _ _ _ p c.in-Reading.is (state_at _ _ _ p c.self.view_is h))
    (unread_at c.in-Err-NoMemory.field-0 (state_view c.in-Reading.reader) c.args.byte c.in-Err-NoMemory.field-0-is c.in-Err-NoMemory.ensures.gives)
