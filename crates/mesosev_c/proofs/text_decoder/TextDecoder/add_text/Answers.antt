use Rattle.std.proofs.Common.{◌∙◌}
use Rattle.mesosev_c.proofs.BatchLemmas.{adds_none, adds_whole, adds_unfit}
use Rattle.mesosev_c.proofs.text_decoder.TextDecoder.add_text.Goals as goal

pub returns-then-not-self-clause-adds : goal.returns-then-not-self-clause-adds
returns-then-not-self-clause-adds c = adds_none _ _ _ _ _ c.if-not-self.true (c.len-start.ensures ∙ c.args.self.now.text.ok.0)

pub returns-in-Whole-clause-adds : goal.returns-in-Whole-clause-adds
returns-in-Whole-clause-adds c = adds_whole _ _ _ _ _ _ c.if-not-self.false (c.len-start.ensures ∙ c.args.self.now.text.ok.0) c.in-Whole.ensures.0 c.in-Whole.ensures.1

pub returns-in-Unfit-clause-adds : goal.returns-in-Unfit-clause-adds
returns-in-Unfit-clause-adds c = adds_unfit _ _ _ _ _ _ c.if-not-self.false (c.len-start.ensures ∙ c.args.self.now.text.ok.0) c.in-Unfit.ensures.0 c.in-Unfit.ensures.1.0 c.in-Unfit.ensures.1.2
