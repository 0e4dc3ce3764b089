use Rattle.mes_json.proofs.MemberLemmas.{token_taken, token_and_more}
use Rattle.mes_json.proofs.reader.Reader.take_any_text.Goals as goal

pub take_string-requires-clause-reached : goal.take_string-requires-clause-reached
take_string-requires-clause-reached c =
    (token_taken c.args.self.now c.begin_text.new.self c.args.bytes.now c.args.from 34 c.requires.fits c.requires.inside c.requires.quote
    c.begin_text.ensures.gives c.begin_text.ensures.fits).reached c.requires.reached

pub returns : goal.returns
returns c =
    token_and_more c.args.self.now c.begin_text.new.self c.take_string.new.self c.args.bytes.now c.args.from c.take_string.result 34 c.requires.fits
    c.requires.inside c.requires.quote c.begin_text.ensures.gives c.begin_text.ensures.fits c.take_string.ensures
