use Rattle.std.proofs.Common.{◌≡◌, true}
use Rattle.mes_frame.proofs.Records.{begun_of}
use Rattle.mes_stream.proofs.record_body.Body.between.Goals as goal

pub returns-clause-inside : goal.returns-clause-inside
returns-clause-inside g c = λ ahead b values s no_end. record {
  whole = s.whole;
  x = s.x;
  spelt = s.spelt;
  records = s.records;
  is = (λ none. let ended : c.between.result ≡ true = (c.between.ensures.represents s.x s.r s.state).1 none in absurd (cc), (s.r, begun_of c.args.self.now.records s.x s.r s.state));
}
