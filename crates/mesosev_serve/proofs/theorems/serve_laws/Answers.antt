use Rattle.mesosev_serve.proofs.CarriedLemmas.{ok_stream}
use Rattle.mesosev_serve.proofs.StreamLemmas.{opens-one, rescinds-once}
use Rattle.mesosev_serve.proofs.theorems.serve_laws.Goals as goal

pub returns : goal.returns
returns c = record { stream = ok_stream; opens = opens-one; once = rescinds-once }
