use Rattle.std.proofs.Common.{None, ap, ◌∙◌}
use Rattle.mes_double_master.specs.Masters.{handled}
use Rattle.mes_double.specs.Worlds.{WorldState, resubscribing}
use Rattle.mes_double.proofs.MakeLemmas.{reopened}
use Rattle.mes_double.proofs.world.World.open_stream.Goals as goal

pub returns : goal.returns
returns c =
    let w : WorldState = record {
      master = c.self.inside.master;
      session = c.self.inside.session;
      waiting = c.self.inside.waiting.items;
      sent = c.self.inside.sent.items;
      skipped = c.self.inside.skipped;
    } in
    c.reopen.ensures
    ∙ reopened w c.args.call.now c.in_ok-answer.answer.status c.in_ok-answer.answer.events.items c.handle.new.self c.in_ok-answer.ensures.ok
    ∙ ap (λ (w : WorldState). resubscribing w (handled w.master c.args.call.now None)) c.self.view_is
