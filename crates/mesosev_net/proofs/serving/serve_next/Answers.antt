use Rattle.std.proofs.Common.{inr, refl}
use Rattle.mesosev_net.proofs.TurnLemmas.{served_some}
use Rattle.mesosev_net.proofs.serving.serve_next.Goals as goal

pub returns-in-Ok-served : goal.returns-in-Ok-served
returns-in-Ok-served g c =
    (c.in-Ok-served.served, served_some _ _ _ _ _ _ _ _ _ _ _ _ _ c.stream_chunk.ensures c.in-Ok-served.is c.serve_one-served.ensures, refl)

pub returns : goal.returns
returns g c = inr (c.in-Err.fault, served_some _ _ _ _ _ _ _ _ _ _ _ _ _ c.stream_chunk.ensures c.in-Err.is c.serve_one-served.ensures, refl)
