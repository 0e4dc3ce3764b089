use Rattle.std.proofs.Common.{inl, inr, refl}
use Rattle.mes_frame.specs.Devices.{Device}
use Rattle.mesosev_stream.specs.declared.exit_status.ExitStatus.TheVariants as exit
use Rattle.mesosev_stream.proofs.PrintLemmas.{prints_told}
use Rattle.mesosev_net.specs.SubscribedJson.{SubscribesJson}
use Rattle.mesosev_net.proofs.ExportedLemmas.{exported_some}
use Rattle.mesosev_net.proofs.LoopLemmas.{same_framework}
use Rattle.mesosev_net.proofs.exporting.subscribe_json.Goals as goal

pub returns-in_default : goal.returns-in_default
unfolding SubscribesJson
returns-in_default g c =
    let err : Device = g.E.Sink.device c.args.err.now in
    let reported : Device = g.E.Sink.device c.out_of_memory.new.out in
    inl (prints_told err reported _ exit.Fault _ c.out_of_memory.ensures, refl, refl)

pub returns-in_default-connect : goal.returns-in_default-connect
unfolding SubscribesJson
returns-in_default-connect g c = inr (inl ((c.print_text.result, c.print_text.ensures), refl, refl))

pub returns : goal.returns
unfolding SubscribesJson
returns g c =
    inr (inr (exported_some _ _ _ _ _ _ _ _ _ _ _ _ _ _ _ (same_framework _ _ _ _ _ c.in-Ok.ensures c.as_str.ensures c.as_str-2.ensures) c.as_str-host.ensures.text c.from.ensures c.export_over.ensures))
