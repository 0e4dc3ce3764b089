use Rattle.std.proofs.Common.{[], arith, refl, rules}
use Rattle.mes_stream.proofs.record_body.Body.following.Goals as goal

pub returns-clause-represents : goal.returns-clause-represents
returns-clause-represents g c = λ ahead many. record {
  whole = [];
  x = [];
  r = [];
  spelt = refl;
  records = refl;
  state = c.new.ensures.represents;
  kept = c.requires;
  count = omega (arith, many);
  limit = rw c.new.ensures.limit (search rules);
}
