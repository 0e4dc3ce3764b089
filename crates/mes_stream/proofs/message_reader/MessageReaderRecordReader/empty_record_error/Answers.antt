use Rattle.mes_json.proofs.PlaceLemmas.{empty_fault}
use Rattle.mes_json.specs.declared.limits.TheConstants.{MAX_NESTING}
use Rattle.mes_stream.proofs.message_reader.MessageReaderRecordReader.empty_record_error.Goals as goal

pub returns-clause-breaks : goal.returns-clause-breaks
returns-clause-breaks g c = empty_fault MAX_NESTING
