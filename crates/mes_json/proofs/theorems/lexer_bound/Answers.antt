use Rattle.mes_json.proofs.LexerLemmas.{is_bounded}
use Rattle.mes_json.proofs.theorems.lexer_bound.Goals as goal

pub returns : goal.returns
returns c p h = is_bounded c.args.lexer.now p h
