use Rattle.mes_json.proofs.CharacterLemmas.{plain_stands}
use Rattle.mes_json.proofs.reader.Reader.short_run.Goals as goal

pub returns-clause-whole : goal.returns-clause-whole
returns-clause-whole c = plain_stands _ c.first_in_block-count.ensures.plain
