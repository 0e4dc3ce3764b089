use Rattle.mesosev_live.proofs.ServedLemmas.{written_step}
use Rattle.mesosev_live.proofs.connection.Connection.put.Goals as goal

pub returns-in-Bytes-clause-writes : goal.returns-in-Bytes-clause-writes
returns-in-Bytes-clause-writes c = written_step c.args.self.now.requests c.args.self.now.out c.wrote.new.self c.in-Bytes.count c.wrote.ensures
