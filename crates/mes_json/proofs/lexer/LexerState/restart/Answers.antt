use Rattle.mes_json.proofs.LexerLemmas.{reads_none}
use Rattle.mes_json.proofs.lexer.LexerState.restart.Goals as goal

pub returns-in-Reading-clause-represents : goal.returns-in-Reading-clause-represents
returns-in-Reading-clause-represents c = reads_none c.restart.new.self c.restart.ensures.fits c.restart.ensures.start

pub returns-in-Faulty-clause-represents : goal.returns-in-Faulty-clause-represents
returns-in-Faulty-clause-represents c = reads_none c.within.result c.within.ensures.fits c.within.ensures.start
