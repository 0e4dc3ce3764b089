use Rattle.std.proofs.Common.{ℕ, ◌<◌, OnErr, ap, sym, subst}
use Rattle.mes_double.specs.Worlds.{WorldState}
use Rattle.mes_double.proofs.MakeLemmas.{heard-first, heard-none}
use Rattle.mes_double.specs.Memory.{HearingWants}
use Rattle.mes_double.proofs.WantLemmas.{heard-wants}
use Rattle.mes_double.proofs.world.World.hear.Goals as goal

pub returns-in-Some-clause-ok : goal.returns-in-Some-clause-ok
returns-in-Some-clause-ok c =
    heard-first c.hear_event.result c.args.self.now _ c.hear_event.new.self c.in-Some.event c.take_first.new.waiting.items c.self.view_is c.in-Some.ensures.some c.hear_event.ensures.ok

pub returns-in-None-clause-ok : goal.returns-in-None-clause-ok
returns-in-None-clause-ok c = heard-none c.args.self.now _ c.skip.new.self c.take_first.new.waiting.items c.self.view_is c.in-None.ensures.none c.skip.ensures

pub returns-in-Some-clause-memory : goal.returns-in-Some-clause-memory
returns-in-Some-clause-memory c =
    subst (λ (w : WorldState). OnErr c.hear_event.result (HearingWants w.waiting)) c.self.view_is
    (heard-wants c.hear_event.result _ c.take_first.new.waiting.items c.in-Some.event c.in-Some.ensures.some c.hear_event.ensures.memory)

pub skip-requires : goal.skip-requires
skip-requires c = subst (λ (n : ℕ). n < 18446744073709551615) (sym (ap (λ (x : WorldState). x.skipped) c.self.view_is)) c.requires
