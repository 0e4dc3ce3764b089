use Rattle.mes_json.proofs.MemberLemmas.{token_taken, left}
use Rattle.mes_json.proofs.reader.Reader.take_value.Goals as goal

pub returns-then-open_object : goal.returns-then-open_object
returns-then-open_object c =
    token_taken c.args.self.now c.open_object.new.self c.args.bytes.now c.args.from 123 c.requires.fits
    c.requires.inside c.in-123.is (c.open_object.ensures.gives c.if-open_object.true) (c.open_object.ensures.fits c.if-open_object.true)

pub returns-else-open_object : goal.returns-else-open_object
returns-else-open_object c = left c.args.self.now c.open_object.new.self c.args.bytes.now c.args.from c.requires.fits c.requires.inside (c.open_object.ensures.stays c.if-open_object.false)
