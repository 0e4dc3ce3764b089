use Rattle.std.proofs.Common.{map}
use Rattle.mesosev.proofs.CommandLemmas.{told_words}
use Rattle.mesosev.proofs.run.run_args.Goals as goal

pub returns-in-Err-clause-runs : goal.returns-in-Err-clause-runs
returns-in-Err-clause-runs g c = told_words (map g.W.AsStr.text c.args.words.now) c.in-Err.fault _ _ _ _ _ _ c.in-Err.ensures.err c.tell.ensures
