use Rattle.mes_json.proofs.MemberLemmas.{object_opens}
use Rattle.mes_json.proofs.reader.Reader.open_object.Goals as goal

pub returns-clause-gives : goal.returns-clause-gives
returns-clause-gives c taken = (object_opens c.args.self.now c.open.new.self c.requires.fits c.requires.at (c.open.ensures.room taken) (c.open.ensures.puts taken)).gives

pub returns-clause-fits : goal.returns-clause-fits
returns-clause-fits c taken = (object_opens c.args.self.now c.open.new.self c.requires.fits c.requires.at (c.open.ensures.room taken) (c.open.ensures.puts taken)).fits
