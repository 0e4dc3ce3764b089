use Rattle.std.proofs.Common.{◌∙◌, ap}
use Rattle.mesosev_c.specs.Decoders.{outcome_of}
use Rattle.mesosev_c.specs.declared.event_decoder.StreamEnd.{StreamEnd}
use Rattle.mesosev_c.proofs.DecoderLemmas.{ends_input}
use Rattle.mesosev_c.proofs.event_decoder.EventDecoder.finish.Goals as goal

pub returns : goal.returns
returns c =
    let outcome = c.outcome-outcome.ensures ∙ ap (λ (end : StreamEnd). outcome_of end) c.with_input-end.ensures in
    rw (c.in-Going.is, outcome, c.with_input-end.ensures) (ends_input c.args.self.now.used c.in-Going.stream c.finish.result c.finish.ensures)
