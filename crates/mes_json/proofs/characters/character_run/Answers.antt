use Rattle.mes_json.proofs.CharacterLemmas.{plain_stands}
use Rattle.mes_json.proofs.characters.character_run.Goals as goal

pub returns-then-plain-bytes-clause-whole : goal.returns-then-plain-bytes-clause-whole
returns-then-plain-bytes-clause-whole c = plain_stands _ c.plain_run-plain.ensures.plain

pub further-requires-clause-whole : goal.further-requires-clause-whole
further-requires-clause-whole c = plain_stands _ c.plain_run-plain.ensures.plain
