use Rattle.mes_json.proofs.LexerLemmas.{state_at}
use Rattle.mes_json.proofs.lexer.Lexer.take.Goals as goal

pub returns-clause-only : goal.returns-clause-only
returns-clause-only c p h = c.take-tape.ensures.only p (state_at _ _ _ p c.self.view_is h)
