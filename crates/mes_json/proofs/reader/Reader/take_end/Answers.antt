use Rattle.std.proofs.Common.{◌+◌, arith}
use Rattle.mes_json.proofs.PlainLemmas.{string_taken, runs_further}
use Rattle.mes_json.proofs.TakenLemmas.{stays_taken}
use Rattle.mes_json.proofs.reader.Reader.take_end.Goals as goal

pub take_colon-requires-clause-fits : goal.take_colon-requires-clause-fits
take_colon-requires-clause-fits c =
    (string_taken c.args.self.now c.close_string.new.self c.args.purpose c.args.bytes.now c.args.from c.in-Ok.ensures.ok c.requires.fits c.requires.reached
    c.requires.at c.requires.inside c.requires.quote).fits

pub returns-in-Ok : goal.returns-in-Ok
returns-in-Ok c =
    runs_further c.args.self.now c.close_string.new.self c.take_colon.new.self c.args.bytes.now c.args.from (c.args.from + 1) c.take_colon.result
    (string_taken c.args.self.now c.close_string.new.self c.args.purpose c.args.bytes.now c.args.from c.in-Ok.ensures.ok c.requires.fits c.requires.reached
    c.requires.at c.requires.inside c.requires.quote) c.take_colon.ensures

pub returns-in-Err : goal.returns-in-Err
returns-in-Err c = stays_taken c.args.self.now c.close_string.new.self c.args.bytes.now c.args.from c.requires.fits (omega (arith, c.requires.inside)) c.in-Err.ensures.err
