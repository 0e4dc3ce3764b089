use Rattle.mes_frame.specs.Devices.{Device}
use Rattle.mesosev_net.specs.ServedTurns.{Serves, ServesEvents}
use Rattle.mesosev_stream.specs.declared.exit_status.ExitStatus.TheVariants as exit
use Rattle.mesosev_stream.proofs.PrintLemmas.{prints_meant}
use Rattle.mesosev_net.proofs.GivenLemmas.{given_events, given_fault}
use Rattle.mesosev_net.proofs.serving.serve.Goals as goal

pub returns-in-Ok : goal.returns-in-Ok
unfolding Serves
returns-in-Ok g c =
    let input : Device = g.I.Source.device c.args.input.now in
    let rest : Device = g.I.Source.device c.read_plain.new.reader in
    let out : Device = g.O.Sink.device c.args.out.now in
    let printed : Device = g.O.Sink.device c.serve_events.new.out in
    given_events (λ events. ServesEvents c.args.stream c.args.count events out printed c.serve_events.result) input rest out printed c.serve_events.result
    c.new-events.result.items c.read_plain.new.events.items c.read_plain.result c.in-Ok.field-0 c.read_plain.ensures.reads c.new-events.ensures.items c.in-Ok.is
    c.as_slice.result.now c.as_slice.ensures.value c.serve_events.ensures

pub returns : goal.returns
unfolding Serves
returns g c =
    let input : Device = g.I.Source.device c.args.input.now in
    let rest : Device = g.I.Source.device c.read_plain.new.reader in
    let out : Device = g.O.Sink.device c.args.out.now in
    let printed : Device = g.O.Sink.device c.print_fault.new.out in
    given_fault (λ events. ServesEvents c.args.stream c.args.count events out printed c.after.result) input rest out printed c.after.result
    c.new-events.result.items c.read_plain.new.events.items c.read_plain.result c.in-Err.stop c.read_plain.ensures.reads c.in-Err.is (prints_meant out printed _ exit.Fault _ _ c.print_fault.ensures c.after.ensures)
