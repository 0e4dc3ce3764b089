use Rattle.mes_stream.specs.declared.record_body.Body.{Body}
use Rattle.mes_stream.proofs.BodyLemmas.{ends_into}
use Rattle.mes_stream.proofs.record_body.Body.end_record_into.Goals as goal

pub returns-clause-ends : goal.returns-clause-ends
returns-clause-ends g c = λ r held short.
    let new : Body g.row.R.Denot = record { records = c.args.self.now.records; reader = c.finish_into.new.self; done = c.saturating_add-self.result } in
    ends_into g.R.RecordReader.holds g.R.RecordReader.spells g.R.RecordReader.breaks c.args.self.now new r c.args.values.now.items c.finish_into.new.values.items c.finish_into.result
    (c.finish_into.ensures.adds r held short) c.finish_into.ensures.next c.saturating_add-self.ensures
