use Rattle.mes_frame.proofs.Records.{begun_of}
use Rattle.mes_stream.proofs.record_body.Body.held.Goals as goal

pub returns-clause-most : goal.returns-clause-most
returns-clause-most g c = λ ahead b values s. record {
  whole = s.whole;
  x = s.x;
  spelt = s.spelt;
  records = s.records;
  is = (s.r, begun_of c.args.self.now.records s.x s.r s.state, c.held.ensures.most s.r s.kept);
}
