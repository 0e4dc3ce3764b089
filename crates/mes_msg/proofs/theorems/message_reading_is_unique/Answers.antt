use Rattle.mes_msg.proofs.TextLaw.{one_value, one_why, no_both, one_or_why}
use Rattle.mes_msg.proofs.theorems.message_reading_is_unique.Goals as goal

pub returns-clause-some : goal.returns-clause-some
returns-clause-some g c = one_or_why g.T.Part.kind g.met.T.Part.lawful c.text_reading_is_unique.ensures.some

pub returns-clause-value : goal.returns-clause-value
returns-clause-value g c = one_value g.T.Part.kind g.met.T.Part.lawful c.text_reading_is_unique.ensures.tree c.text_reading_is_unique.ensures.fault

pub returns-clause-why : goal.returns-clause-why
returns-clause-why g c = one_why g.T.Part.kind g.met.T.Part.lawful c.text_reading_is_unique.ensures.tree c.text_reading_is_unique.ensures.fault

pub returns-clause-apart : goal.returns-clause-apart
returns-clause-apart g c = no_both g.T.Part.kind g.met.T.Part.lawful c.text_reading_is_unique.ensures.tree c.text_reading_is_unique.ensures.fault
