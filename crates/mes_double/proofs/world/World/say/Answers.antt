use Rattle.std.proofs.Common.{ℕ, ◌<◌, OnOk, OnErr, None, ap, sym, subst, ◌∙◌}
use Rattle.mes_session_state.specs.Refusals.{Answers}
use Rattle.mes_double.specs.Worlds.{WorldState, Wishes}
use Rattle.mes_double.proofs.MakeLemmas.{said-ok, said-err}
use Rattle.mes_double.proofs.WantLemmas.{anyway}
use Rattle.mes_double.proofs.world.World.say.Goals as goal

pub returns-in-Ok-clause-ok : goal.returns-in-Ok-clause-ok
returns-in-Ok-clause-ok c =
    subst (λ (w : WorldState). OnOk c.send.result (Wishes w c.args.call.now w.master.stream c.send.new.self)) c.self.view_is
    (said-ok c.send.result _ c.send.new.self c.said.new.self c.args.call.now c.args.stream (ap (λ (w : WorldState). w.master.stream) c.self.view_is ∙ c.requires.current) c.in-Ok.ensures.ok c.send.ensures)

pub returns-in-Err-clause-ok : goal.returns-in-Err-clause-ok
returns-in-Err-clause-ok c =
    subst (λ (w : WorldState). Wishes w c.args.call.now w.master.stream c.skip.new.self) c.self.view_is
    (said-err _ c.skip.new.self c.said.new.self c.args.call.now c.args.stream c.in-Err.field-0 (ap (λ (w : WorldState). w.master.stream) c.self.view_is ∙ c.requires.current) c.in-Err.ensures.err c.in-Err.ensures.same c.skip.ensures)

pub returns-in-Ok-clause-memory : goal.returns-in-Ok-clause-memory
returns-in-Ok-clause-memory c =
    subst (λ (w : WorldState). OnErr c.send.result (Answers w.session c.args.call.now None)) c.self.view_is
    (anyway c.send.result c.in-Ok.ensures.ok.accepted)

pub skip-requires : goal.skip-requires
skip-requires c = subst (λ (n : ℕ). n < 18446744073709551615) (sym (ap (λ (x : WorldState). x.skipped) c.self.view_is)) c.requires.room
