use Rattle.std.proofs.Common.{refl}
use Rattle.mes_json.proofs.AfterLemmas.{item_follows}
use Rattle.mes_json.proofs.reader.Reader.expect_item.Goals as goal

pub returns-clause-gives : goal.returns-clause-gives
returns-clause-gives c = (item_follows c.args.self.now 44 c.requires.fits c.requires.at c.requires.inside refl).0

pub returns-clause-fits : goal.returns-clause-fits
returns-clause-fits c = (item_follows c.args.self.now 44 c.requires.fits c.requires.at c.requires.inside refl).1
