-- The outcome of `subscribe --json`, from what was sent and written over some socket.
use Rattle.std.proofs.Common.{◌≡◌, ℕ, List, subst}
use Rattle.mes_frame.specs.Devices.{Device}
use Rattle.mes_model.specs.declared.framework_info.FrameworkInfo.{FrameworkInfo}
use Rattle.mesosev_net.specs.SubscribedJson.{SubscribesOne}
use Rattle.mesosev_serve.specs.Exporting.{ExportsOver}
use Rattle.mesosev_stream.specs.declared.outcome.RunOutcome.{RunOutcome}

pub exported_some : (info plain : FrameworkInfo) (host to : List ℕ) (reads most : ℕ) (input rest writer written out printed err reported : Device) (ended : RunOutcome)
    → info ≡ plain → host ≡ to → reads ≡ most → ExportsOver info host reads input rest writer written out printed err reported ended
    → SubscribesOne plain to most out printed err reported ended
exported_some info plain host to reads most input rest writer written out printed err reported ended a b c s = record {
  input = input;
  rest = rest;
  writer = writer;
  written = written;
  exports = subst (λ (i : FrameworkInfo). ExportsOver i to most input rest writer written out printed err reported ended) a
      (subst (λ (h : List ℕ). ExportsOver info h most input rest writer written out printed err reported ended) b
      (subst (λ (n : ℕ). ExportsOver info host n input rest writer written out printed err reported ended) c s));
}
