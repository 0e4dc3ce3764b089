use Rattle.std.proofs.Common.{◌+◌}
use Rattle.mes_json.proofs.PlainLemmas.{runs_further}
use Rattle.mes_json.proofs.reader.Reader.take_run.Goals as goal

pub returns : goal.returns
returns c =
    runs_further c.args.self.now c.take_alike-end.new.self c.take_members.new.self c.args.bytes.now (c.args.place + 1) c.take_alike-end.result c.take_members.result
    c.take_alike-end.ensures c.take_members.ensures
