use Rattle.std.proofs.Common.{◌≡◌, ◌∙◌, List, ℕ, ◌<◌, OnOk, slice_get, ap, sym, subst}
use Rattle.mes_double.specs.declared.sent.Sent.{Sent as SentValue}
use Rattle.mes_double.specs.Worlds.{WorldState, arriving}
use Rattle.mes_double.proofs.MakeLemmas.{arrives-ok}
use Rattle.mes_double.proofs.WantLemmas.{anyway, arrived-wants, handled-wants}
use Rattle.mes_double.proofs.world.World.arrive.Goals as goal

pub returns-in_ok-answer-in-Some-clause-ok : goal.returns-in_ok-answer-in-Some-clause-ok
returns-in_ok-answer-in-Some-clause-ok c =
    subst (λ (w : WorldState). OnOk c.answered.result (c.answered.new.self ≡ arriving w (slice_get w.sent c.args.index))) c.self.view_is
    (arrives-ok c.answered.result _ c.answered.new.self c.args.index c.in-Some.sent.now c.in_ok-answer-in-Some.answer.status c.in_ok-answer-in-Some.answer.events.items c.handle.new.self (ap (λ (l : List SentValue). slice_get l c.args.index) (sym c.as_slice.ensures.value) ∙ sym c.in-Some.ensures) c.in_ok-answer-in-Some.ensures.ok c.answered.ensures.ok)

pub returns-in_ok-answer-in-Some-clause-memory : goal.returns-in_ok-answer-in-Some-clause-memory
returns-in_ok-answer-in-Some-clause-memory c =
    arrived-wants c.answered.result _ c.args.self.now c.args.index c.in-Some.sent.now c.in_ok-answer-in-Some.answer.status c.self.view_is
    (ap (λ (l : List SentValue). slice_get l c.args.index) (sym c.as_slice.ensures.value) ∙ sym c.in-Some.ensures) c.in_ok-answer-in-Some.ensures.ok.status_is c.answered.ensures.memory

pub returns-in_err-answer-in-Some-clause-memory : goal.returns-in_err-answer-in-Some-clause-memory
returns-in_err-answer-in-Some-clause-memory c =
    anyway c.from_residual.result
    (handled-wants _ c.args.self.now c.args.index c.in-Some.sent.now c.self.view_is
    (ap (λ (l : List SentValue). slice_get l c.args.index) (sym c.as_slice.ensures.value) ∙ sym c.in-Some.ensures) c.in_err-answer-in-Some.ensures.memory)

pub answered-requires : goal.answered-requires
answered-requires c = subst (λ (n : ℕ). n < 18446744073709551615) (sym (ap (λ (x : WorldState). x.skipped) c.self.view_is)) c.requires
