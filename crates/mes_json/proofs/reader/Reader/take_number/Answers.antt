use Rattle.std.proofs.Common.{◌+◌, arith}
use Rattle.mes_json.proofs.PlainLemmas.{runs_further}
use Rattle.mes_json.proofs.NumberRuns.{number_taken}
use Rattle.mes_json.proofs.reader.Reader.take_number.Goals as goal

pub take_following_number-requires-clause-fits : goal.take_following_number-requires-clause-fits
take_following_number-requires-clause-fits c =
    (number_taken c.args.self.now c.begin_digits.new.self c.number_run-count.result.1 c.args.bytes.now c.args.from c.number_run-count.result.0 c.requires.fits c.requires.at
    (omega (arith, c.requires.inside)) c.number_run-count.ensures.inside (c.begin_digits.ensures.some c.if-not-begin_digits.false) c.number_run-count.ensures.leads
    (c.begin_digits.ensures.begins c.if-not-begin_digits.false)).fits

pub take_following_number-requires-clause-reached : goal.take_following_number-requires-clause-reached
take_following_number-requires-clause-reached c =
    (number_taken c.args.self.now c.begin_digits.new.self c.number_run-count.result.1 c.args.bytes.now c.args.from c.number_run-count.result.0 c.requires.fits c.requires.at
    (omega (arith, c.requires.inside)) c.number_run-count.ensures.inside (c.begin_digits.ensures.some c.if-not-begin_digits.false) c.number_run-count.ensures.leads
    (c.begin_digits.ensures.begins c.if-not-begin_digits.false)).reached c.requires.reached

pub returns : goal.returns
returns c =
    runs_further c.args.self.now c.begin_digits.new.self c.take_following_number.new.self c.args.bytes.now c.args.from (c.args.from + c.number_run-count.result.0)
    c.take_following_number.result
    (number_taken c.args.self.now c.begin_digits.new.self c.number_run-count.result.1 c.args.bytes.now c.args.from c.number_run-count.result.0 c.requires.fits c.requires.at
    (omega (arith, c.requires.inside)) c.number_run-count.ensures.inside (c.begin_digits.ensures.some c.if-not-begin_digits.false) c.number_run-count.ensures.leads
    (c.begin_digits.ensures.begins c.if-not-begin_digits.false))
    c.take_following_number.ensures
