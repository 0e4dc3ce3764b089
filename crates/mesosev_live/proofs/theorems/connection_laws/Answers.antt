use Rattle.mesosev_live.specs.Runs.{no_bytes}
use Rattle.mesosev_live.proofs.RunLemmas.{all_taken, all_written}
use Rattle.mesosev_live.proofs.theorems.connection_laws.Goals as goal

pub returns-clause-taken : goal.returns-clause-taken
returns-clause-taken c = all_taken no_bytes

pub returns-clause-responded : goal.returns-clause-responded
returns-clause-responded c = all_written no_bytes
