use Rattle.std.proofs.Common.{ap, refl, ◌∙◌}
use Rattle.mes_double_live.specs.Lives.{LiveState}
use Rattle.mes_double_live.specs.Steps.Step.{releases}
use Rattle.mes_double_live.proofs.MoveLemmas.{moves-from, moves-then}
use Rattle.mes_double_live.proofs.StepLemmas.{body-steps, same-by, steps-from, steps-same, sending-of-delivering, steps-then, steps-wider, time-last}
use Rattle.mes_double_live.proofs.live.Live.passed.Goals as goal

pub returns-clause-moves : goal.returns-clause-moves
returns-clause-moves c =
    moves-then _ _ _ (moves-from _ _ _ (c.release.ensures.same ∙ ap (λ (live : LiveState). live.master) c.note_time.ensures) c.deliver_waiting.ensures.moves)
    (moves-from _ _ _ (c.resend_due.ensures.same ∙ c.beat_due.ensures.same) c.send_due.ensures.moves)

pub returns-then-not-has_stream-clause-steps : goal.returns-then-not-has_stream-clause-steps
returns-then-not-has_stream-clause-steps c = steps-same _ _ (same-by _ _ _ c.note_time.ensures refl refl refl refl)

pub returns-clause-steps : goal.returns-clause-steps
returns-clause-steps c =
    let time = ap (λ (live : LiveState). live.time) c.note_time.ensures in
    let release = body-steps (releases _) _ _ time c.release.ensures.same c.in_ok-release.ensures.released (ap (λ (live : LiveState). live.cluster.tasks) c.release.ensures.rest) (ap (λ (live : LiveState). live.waiting) c.release.ensures.rest) in
    let released = steps-from _ _ _ (same-by _ _ _ c.note_time.ensures refl refl refl refl) release in
    time-last _ _ _ _ _ _ _ released (steps-then _ _ _ c.in_ok-deliver_waiting.ensures.steps (steps-wider sending-of-delivering _ _ c.in_ok-beat_due.ensures.steps)) c.in_ok-resend_due.ensures.steps c.send_due.ensures.steps
