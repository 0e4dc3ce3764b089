use Rattle.std.proofs.Common.{sym, ap, ◌∙◌}
use Rattle.mes_double.specs.Worlds.{WorldState}
use Rattle.mes_double.proofs.MakeLemmas.{wish-none}
use Rattle.mes_double.proofs.WantLemmas.{wished-wants}
use Rattle.mes_double.proofs.world.World.wish.Goals as goal

pub returns-in-None-clause-ok : goal.returns-in-None-clause-ok
returns-in-None-clause-ok c = wish-none c.args.self.now c.skip.new.self c.args.call.now (sym (ap (λ (w : WorldState). w.master.stream) c.self.view_is) ∙ sym c.current.ensures ∙ c.in-None.is) c.skip.ensures

pub say-requires-clause-current : goal.say-requires-clause-current
say-requires-clause-current c = sym (ap (λ (w : WorldState). w.master.stream) c.self.view_is) ∙ sym c.current.ensures ∙ c.in-Some.is

pub returns-in-Some-clause-memory : goal.returns-in-Some-clause-memory
returns-in-Some-clause-memory c =
    wished-wants c.say.result c.args.self.now c.args.call.now _ c.in-Some.stream (sym (ap (λ (w : WorldState). w.master.stream) c.self.view_is) ∙ sym c.current.ensures ∙ c.in-Some.is) c.say.ensures.memory
