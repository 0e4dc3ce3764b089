use Rattle.std.proofs.Common.{[]}
use Rattle.mes_json.specs.Lexer.{HasLexed}
use Rattle.mes_json.proofs.LexerLemmas.{reads_none}
use Rattle.mes_json.proofs.lexer.Lexer.begin.Goals as goal

pub invariant_of-result : goal.invariant_of-result
invariant_of-result c = ([], reads_none _ c.requires.fits c.requires.start)

pub returns-clause-lexed : goal.returns-clause-lexed
unfolding HasLexed
returns-clause-lexed c = reads_none _ c.requires.fits c.requires.start
