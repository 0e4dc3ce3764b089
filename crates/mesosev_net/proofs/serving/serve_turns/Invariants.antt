use Rattle.mesosev_net.specs.ServedTurns.{Turned}
use Rattle.mesosev_net.proofs.serving.serve_turns.Given as goal

-- the connections served so far
abbrev pub invariant-loop : goal.invariant-loop
invariant-loop g l =
    Turned l.counter l.fn.master l.events (g.O.Sink.device l.fn.out) (g.O.Sink.device l.out) l.master l.printed
