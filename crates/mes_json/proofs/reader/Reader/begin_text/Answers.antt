use Rattle.mes_json.proofs.StringLemmas.{text_begins}
use Rattle.mes_json.proofs.reader.Reader.begin_text.Goals as goal

pub returns-clause-fits : goal.returns-clause-fits
returns-clause-fits c = text_begins c.args.self.now c.begin.new.self c.requires.fits c.requires.at c.begin.ensures
