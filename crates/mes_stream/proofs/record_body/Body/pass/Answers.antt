use Rattle.std.proofs.Common.{refl}
use Rattle.mes_stream.specs.declared.record_body.Body.{Body}
use Rattle.mes_stream.proofs.GatherLemmas.{on_ok, passed}
use Rattle.mes_stream.proofs.record_body.Body.pass.Goals as goal

pub returns-clause-ok : goal.returns-clause-ok
returns-clause-ok g c = on_ok c.push_run.result _ _
    (λ holds ahead b values s.
    let new : Body g.row.R.Denot = record { records = c.pass-ended.new.self; reader = c.push_run.new.self; done = c.args.self.now.done } in
    passed g.R.RecordReader.holds g.R.RecordReader.spells ahead c.args.self.now new b c.args.run.now values c.pass-ended.result s refl c.pass-ended.ensures.limit
    (c.pass-ended.ensures.passes s.x s.r c.args.run.now refl s.state) c.requires c.pass-ended.ensures.remaining (holds s.r s.kept))
    c.push_run.ensures.ok
