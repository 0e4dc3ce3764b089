use Rattle.std.proofs.Common.{ℕ, ◌≡◌, ◌<◌, OnOk, OnErr, IsOk, ap, sym, subst}
use Rattle.mes_double_master.specs.Sending.{offers_sent}
use Rattle.mes_double.specs.Worlds.{WorldState, sending}
use Rattle.mes_double.proofs.MakeLemmas.{sent-ok, sent-err}
use Rattle.mes_double.proofs.WantLemmas.{sent-wants, refused-wants}
use Rattle.mes_double.proofs.world.World.offer.Goals as goal

pub returns-in-Ok-clause-ok : goal.returns-in-Ok-clause-ok
returns-in-Ok-clause-ok c =
    subst (λ (w : WorldState). OnOk c.push.result (c.push.new.self ≡ sending w (offers_sent w.master c.args.offers.now))) c.self.view_is
    (sent-ok c.push.result _ c.push.new.self _ c.offer.new.self c.in-Ok.event c.in-Ok.ensures.ok c.push.ensures)

pub returns-in-Err-clause-ok : goal.returns-in-Err-clause-ok
returns-in-Err-clause-ok c =
    subst (λ (w : WorldState). OnOk c.skip_for.result (c.skip_for.new.self ≡ sending w (offers_sent w.master c.args.offers.now))) c.self.view_is
    (sent-err c.skip_for.result _ c.skip_for.new.self _ c.offer.new.self c.in-Err.why c.in-Err.ensures.err.0 c.in-Err.ensures.err.1 c.skip_for.ensures.err c.skip_for.ensures.ok)

pub returns-in-Ok-clause-memory : goal.returns-in-Ok-clause-memory
returns-in-Ok-clause-memory c =
    subst (λ (w : WorldState). OnErr c.push.result (IsOk (offers_sent w.master c.args.offers.now))) c.self.view_is
    (sent-wants c.push.result _ c.offer.new.self c.in-Ok.event c.in-Ok.ensures.ok)

pub returns-in-Err-clause-memory : goal.returns-in-Err-clause-memory
returns-in-Err-clause-memory c =
    subst (λ (w : WorldState). OnErr c.skip_for.result (IsOk (offers_sent w.master c.args.offers.now))) c.self.view_is
    (refused-wants c.skip_for.result c.in-Err.why c.skip_for.ensures.memory c.in-Err.ensures.memory)

pub skip_for-requires : goal.skip_for-requires
skip_for-requires c = subst (λ (n : ℕ). n < 18446744073709551615) (sym (ap (λ (x : WorldState). x.skipped) c.self.view_is)) c.requires
