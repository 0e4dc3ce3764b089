use Rattle.mes_json.proofs.StringLemmas.{next_name_begins}
use Rattle.mes_json.proofs.reader.Reader.name.Goals as goal

pub returns-in-Quote-clause-fits : goal.returns-in-Quote-clause-fits
returns-in-Quote-clause-fits c = next_name_begins c.args.self.now c.begin.new.self c.requires.fits c.requires.at c.begin.ensures
