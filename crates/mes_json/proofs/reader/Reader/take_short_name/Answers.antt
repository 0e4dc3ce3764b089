use Rattle.std.proofs.Common.{arith}
use Rattle.mes_json.proofs.TakenLemmas.{stays_taken}
use Rattle.mes_json.proofs.ShortLemmas.{name_taken}
use Rattle.mes_json.proofs.reader.Reader.take_short_name.Goals as goal

pub returns-then-put_short : goal.returns-then-put_short
returns-then-put_short c =
    name_taken c.args.self.now c.put_short.new.self c.args.bytes.now c.args.from c.args.count c.requires.fits c.requires.reached c.requires.at c.requires.begins
    c.requires.few c.requires.block c.requires.whole c.requires.ends c.requires.following c.requires.colon (c.put_short.ensures.puts c.if-put_short.true)

pub returns-else-put_short : goal.returns-else-put_short
returns-else-put_short c =
    stays_taken c.args.self.now c.put_short.new.self c.args.bytes.now c.args.from c.requires.fits (omega (arith, c.requires.block))
    (c.put_short.ensures.stays c.if-put_short.false)
