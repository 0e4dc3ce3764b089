use Rattle.std.proofs.Common.{ℕ, List, subst}
use Rattle.mes_frame.specs.Devices.{Device}
use Rattle.mesosev_net.specs.Looped.{Loops, LoopsEvents, loopback_stream}
use Rattle.mesosev_stream.specs.declared.exit_status.ExitStatus.TheVariants as exit
use Rattle.mesosev_stream.proofs.PrintLemmas.{prints_meant}
use Rattle.mesosev_net.proofs.GivenLemmas.{given_events, given_fault}
use Rattle.mesosev_net.proofs.both_ends.loopback.Goals as goal

pub returns-in-Ok : goal.returns-in-Ok
unfolding Loops
returns-in-Ok g c =
    let input : Device = g.I.Source.device c.args.input.now in
    let rest : Device = g.I.Source.device c.read_plain.new.reader in
    let out : Device = g.O.Sink.device c.args.out.now in
    let printed : Device = g.O.Sink.device c.loop_events-ended.new.out in
    given_events (λ events. LoopsEvents loopback_stream c.args.most events out printed c.loop_events-ended.result) input rest out printed c.loop_events-ended.result
    c.new-events.result.items c.read_plain.new.events.items c.read_plain.result c.in-Ok.field-0 c.read_plain.ensures.reads c.new-events.ensures.items c.in-Ok.is
    c.as_slice.result.now c.as_slice.ensures.value (subst (λ (s : List ℕ). LoopsEvents s c.args.most c.as_slice.result.now out printed c.loop_events-ended.result) c.from_u128-stream.ensures c.loop_events-ended.ensures)

pub returns-in-Err : goal.returns-in-Err
unfolding Loops
returns-in-Err g c =
    let input : Device = g.I.Source.device c.args.input.now in
    let rest : Device = g.I.Source.device c.read_plain.new.reader in
    let out : Device = g.O.Sink.device c.args.out.now in
    let printed : Device = g.O.Sink.device c.print_fault.new.out in
    given_fault (λ events. LoopsEvents loopback_stream c.args.most events out printed c.after.result) input rest out printed c.after.result
    c.new-events.result.items c.read_plain.new.events.items c.read_plain.result c.in-Err.stop c.read_plain.ensures.reads c.in-Err.is (prints_meant out printed _ exit.Fault _ _ c.print_fault.ensures c.after.ensures)
