use Rattle.std.proofs.Common.{inl, inr}
use Rattle.mes_frame.specs.Devices.{Device}
use Rattle.mesosev_stream.specs.declared.exit_status.ExitStatus.TheVariants as exit
use Rattle.mesosev_stream.proofs.PrintLemmas.{prints_meant}
use Rattle.mesosev_net.proofs.TurnLemmas.{events_served}
use Rattle.mesosev_net.proofs.serving.serve_events.Goals as goal

pub returns-in-Ok-bind : goal.returns-in-Ok-bind
returns-in-Ok-bind g c =
    events_served c.args.stream c.args.count _ c.args.events.now (g.O.Sink.device c.args.out.now)
    (g.O.Sink.device c.serve_turns.new.out) c.serve_turns.result c.in-Ok.ensures c.serve_turns.ensures

pub returns : goal.returns
returns g c =
    let out : Device = g.O.Sink.device c.args.out.now in
    let printed : Device = g.O.Sink.device c.print_text.new.out in
    inr (inl (prints_meant out printed _ exit.Fault _ _ c.print_text.ensures c.after.ensures))
