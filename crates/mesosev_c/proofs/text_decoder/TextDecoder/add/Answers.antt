use Rattle.std.proofs.Common.{◌-◌, ◌∙◌, ap}
use Rattle.mesosev_c.proofs.BatchLemmas.{adds_event}
use Rattle.mesosev_c.proofs.text_decoder.TextDecoder.add.Goals as goal

pub returns-clause-adds : goal.returns-clause-adds
returns-clause-adds c =
    adds_event c.args.self.now.texts c.args.event.now c.args.self.now.text.items c.add_text-start.new.self.text.items c.args.count c.args.room.now c.add_text-start.new.others c.add_text-start.result _ _ c.requires c.event_number.ensures
    (ap (λ n. n - c.add_text-start.result) (c.len.ensures ∙ c.add_text-start.new.self.text.ok.0)) c.add_text-start.ensures.adds
