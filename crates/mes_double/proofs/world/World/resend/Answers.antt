use Rattle.std.proofs.Common.{OnErr, IsOk, sym, subst}
use Rattle.mes_double_master.specs.Sending.{resend_sent}
use Rattle.mes_double.specs.Worlds.{WorldState}
use Rattle.mes_double.proofs.MakeLemmas.{resent-ok, resent-err}
use Rattle.mes_double.proofs.WantLemmas.{sent-wants, refused-wants}
use Rattle.mes_double.proofs.world.World.resend.Goals as goal

pub returns-in-Ok-clause-ok : goal.returns-in-Ok-clause-ok
returns-in-Ok-clause-ok c =
    resent-ok c.push.result c.args.self.now _ c.push.new.self (λ (w : WorldState). resend_sent w.master c.args.index) (sym c.self.view_is) c.in-Ok.event c.in-Ok.ensures.ok c.push.ensures

pub returns-in-Err-clause-ok : goal.returns-in-Err-clause-ok
returns-in-Err-clause-ok c =
    resent-err c.skip_for.result c.args.self.now _ c.skip_for.new.self (λ (w : WorldState). resend_sent w.master c.args.index) (sym c.self.view_is) c.in-Err.why c.in-Err.ensures.err c.skip_for.ensures.err c.skip_for.ensures.ok

pub returns-in-Ok-clause-memory : goal.returns-in-Ok-clause-memory
returns-in-Ok-clause-memory c =
    subst (λ (w : WorldState). OnErr c.push.result (IsOk (resend_sent w.master c.args.index))) c.self.view_is
    (sent-wants c.push.result _ _ c.in-Ok.event c.in-Ok.ensures.ok)

pub returns-in-Err-clause-memory : goal.returns-in-Err-clause-memory
returns-in-Err-clause-memory c =
    subst (λ (w : WorldState). OnErr c.skip_for.result (IsOk (resend_sent w.master c.args.index))) c.self.view_is
    (refused-wants c.skip_for.result c.in-Err.why c.skip_for.ensures.memory c.in-Err.ensures.memory)
