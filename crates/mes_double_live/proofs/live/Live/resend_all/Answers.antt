use Rattle.std.proofs.Common.{◌∙◌, refl}
use Rattle.mes_double_live.proofs.OpenLemmas.{makes-none, resends-on}
use Rattle.mes_double_live.proofs.live.Live.resend_all.Goals as goal

pub loop-index-init : goal.loop-index-init
loop-index-init c = record { same = refl; again = makes-none _ _ refl }

pub loop-index-preserved : goal.loop-index-preserved
loop-index-preserved c = record {
  same = c.resend.ensures.same ∙ c.loop-index.invariant.same;
  again =
      resends-on c.in_ok-resend.field-0 c.loop-index.index c.args.self.now c.loop-index.self c.resend.new.self c.if-not-branch.false c.requires c.loop-index.invariant.same
      c.loop-index.invariant.again c.in_ok-resend.ensures.again;
}
