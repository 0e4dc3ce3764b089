use Rattle.std.proofs.Common.{rules}
use Rattle.mes_double_http.proofs.LengthLemmas.{counts_more}
use Rattle.mes_double_http.proofs.content_length.length_of.Goals as goal

pub loop-digit-preserved : goal.loop-digit-preserved
loop-digit-preserved c =
    counts_more c.args.value.now c.loop-digit.length c.min-length.result c.loop-digit.digit-index c.loop-digit.invariant c.loop-digit-test.true (search rules) (search rules) (search rules) (search rules)
