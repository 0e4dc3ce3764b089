use Rattle.std.proofs.Common.{[], arith}
use Rattle.mes_stream.proofs.message_reader.MessageReaderRecordReader.release.Goals as goal

pub returns-clause-kept : goal.returns-clause-kept
returns-clause-kept g c = let most = (c.lexer_bound.ensures [] c.new.ensures.lexed).texts in omega (arith, most)
