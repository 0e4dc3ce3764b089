use Rattle.std.proofs.Common.{ap, arith, length}
use Rattle.memchr.specs.Find.{is_byte}
use Rattle.memchr.proofs.lemmas.CallerLemmas.{length-places}
use Rattle.mesosev_stream.proofs.line_number.line_feeds_of.Goals as goal

pub returns : goal.returns
returns c = omega (arith, c.loop-at.invariant, ap length c.in-None.ensures.steps.0, length-places (is_byte 10) c.args.bytes.now)
