use Rattle.mes_json.proofs.MemberLemmas.{any_name_begins}
use Rattle.mes_json.proofs.reader.Reader.begin_name.Goals as goal

pub returns-clause-fits : goal.returns-clause-fits
returns-clause-fits c = any_name_begins c.args.self.now c.begin.new.self c.requires.fits c.requires.at c.begin.ensures
