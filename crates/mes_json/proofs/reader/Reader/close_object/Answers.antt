use Rattle.mes_json.proofs.MemberLemmas.{object_closes}
use Rattle.mes_json.proofs.reader.Reader.close_object.Goals as goal

pub returns-clause-gives : goal.returns-clause-gives
returns-clause-gives c taken = (object_closes c.args.self.now c.close.new.self c.requires.fits c.requires.at c.requires.inside (c.close.ensures.puts taken)).gives

pub returns-clause-fits : goal.returns-clause-fits
returns-clause-fits c taken = (object_closes c.args.self.now c.close.new.self c.requires.fits c.requires.at c.requires.inside (c.close.ensures.puts taken)).fits
