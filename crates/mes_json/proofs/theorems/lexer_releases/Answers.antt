use Rattle.mes_json.proofs.LexerLemmas.{lets_go_of_faults, lets_go_of_all}
use Rattle.mes_json.proofs.theorems.lexer_releases.Goals as goal

pub returns-clause-fault : goal.returns-clause-fault
returns-clause-fault c p h no_text = lets_go_of_faults c.args.lexer.now p h no_text

pub returns-clause-memory : goal.returns-clause-memory
returns-clause-memory c h = lets_go_of_all c.args.lexer.now h
