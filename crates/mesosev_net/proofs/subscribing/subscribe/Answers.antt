use Rattle.std.proofs.Common.{inl, inr}
use Rattle.mesosev_net.specs.Subscribed.{Subscribes}
use Rattle.mes_frame.specs.Devices.{Device}
use Rattle.mesosev_stream.specs.declared.exit_status.ExitStatus.TheVariants as exit
use Rattle.mesosev_stream.proofs.PrintLemmas.{prints_meant}
use Rattle.mesosev_net.proofs.LoopLemmas.{same_framework, subscribed_some}
use Rattle.mesosev_net.proofs.subscribing.subscribe.Goals as goal

pub returns-in_default : goal.returns-in_default
unfolding Subscribes
returns-in_default g c = inl c.out_of_memory.ensures

pub returns-in_default-connect : goal.returns-in_default-connect
unfolding Subscribes
returns-in_default-connect g c =
    let out : Device = g.O.Sink.device c.args.out.now in
    let printed : Device = g.O.Sink.device c.print_text.new.out in
    inr (inl (prints_meant out printed _ exit.Fault _ _ c.print_text.ensures c.after.ensures))

pub returns : goal.returns
unfolding Subscribes
returns g c =
    inr (inr (subscribed_some _ _ _ _ _ _ _ _ _ _ _ _ _ (same_framework _ _ _ _ _ c.in-Ok.ensures c.as_str.ensures c.as_str-2.ensures) c.as_str-host.ensures.text c.from.ensures c.subscribe_over.ensures))
