use Rattle.std.proofs.Common.{◌≡◌, ℕ, ◌<◌, OnOk, ap, sym, subst}
use Rattle.mes_double.specs.Worlds.{WorldState, resubscribing, subscribe_answer}
use Rattle.mes_double.proofs.MakeLemmas.{resubscribed-ok}
use Rattle.mes_double.proofs.world.World.resubscribe.Goals as goal

pub returns-in-Ok : goal.returns-in-Ok
returns-in-Ok c =
    let w : WorldState = record {
      master = c.self.inside.master;
      session = c.self.inside.session;
      waiting = c.self.inside.waiting.items;
      sent = c.self.inside.sent.items;
      skipped = c.self.inside.skipped;
    } in
    subst (λ (w : WorldState). OnOk c.open_stream.result (c.open_stream.new.self ≡ resubscribing w (subscribe_answer w))) c.self.view_is
    (resubscribed-ok c.open_stream.result w c.open_stream.new.self c.subscribe.new.self c.in-Ok.call c.in_ok-info.info c.in_ok-info.ensures c.in-Ok.ensures.call c.in-Ok.ensures.ok c.open_stream.ensures)

pub open_stream-requires : goal.open_stream-requires
open_stream-requires c = subst (λ (n : ℕ). n < 18446744073709551615) (sym (ap (λ (x : WorldState). x.skipped) c.self.view_is)) c.requires
