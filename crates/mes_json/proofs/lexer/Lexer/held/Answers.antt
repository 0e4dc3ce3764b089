use Rattle.mes_json.proofs.LexerLemmas.{state_at, reading_at, reading_begins}
use Rattle.mes_json.proofs.lexer.Lexer.held.Goals as goal

pub returns-in-Reading-clause-fault : goal.returns-in-Reading-clause-fault
returns-in-Reading-clause-fault c p h no_text =
    absurd (no_text (reading_begins _ c.in-Reading.reader p (reading_at _ _ _ p c.in-Reading.is (state_at _ _ _ p c.self.view_is h))))
