use Rattle.std.proofs.Common.{refl, ◌∙◌, ap}
use Rattle.mes_frame.specs.RecordState.{limit_of}
use Rattle.mes_stream.specs.declared.record_body.Body.{Body}
use Rattle.mes_stream.proofs.stream_reader.StreamReader.following.Goals as goal

pub returns-in-Chunked : goal.returns-in-Chunked
returns-in-Chunked g c = record {
  represents = λ ahead many. rw c.in-Chunked.is (refl, c.new.ensures.represents ahead (c.following-body.ensures.represents ahead many), ap (λ (b : Body g.row.R.Denot). limit_of b.records) c.new.ensures.body ∙ c.following-body.ensures.limit);
}

pub returns-in-Lines : goal.returns-in-Lines
returns-in-Lines g c = record {
  represents = λ ahead many. rw c.in-Lines.is (refl, c.new-in-Lines.ensures.represents ahead (c.following-body.ensures.represents ahead many), c.new-in-Lines.ensures.limit);
}
