use Rattle.mes_json.proofs.AfterLemmas.{name_follows}
use Rattle.mes_json.proofs.reader.Reader.expect_name.Goals as goal

pub returns-clause-fits : goal.returns-clause-fits
returns-clause-fits c = name_follows c.args.self.now c.requires.fits c.requires.at c.requires.inside
