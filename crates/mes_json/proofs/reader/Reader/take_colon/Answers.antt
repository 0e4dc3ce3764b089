use Rattle.mes_json.proofs.PlainLemmas.{colon_taken}
use Rattle.mes_json.proofs.reader.Reader.take_colon.Goals as goal

pub returns-in-Colon : goal.returns-in-Colon
returns-in-Colon c = colon_taken c.args.self.now c.args.bytes.now c.args.from c.requires.fits c.in-Colon.is c.if-from-bytes.true c.if-bytes-from-eq58.true
