use Rattle.std.proofs.Common.{◌∙◌, ap}
use Rattle.std.specs.Prelude.{is_some}
use Rattle.mes_double_master.specs.Masters.{MasterState}
use Rattle.mes_double_live.proofs.OpenLemmas.{stream-begins}
use Rattle.mes_double_live.proofs.MoveLemmas.{moves-from, moves-then}
use Rattle.mes_double_live.proofs.StepLemmas.{sending-of-delivering, steps-then, steps-wider}
use Rattle.mes_double_live.proofs.live.Live.open_stream.Goals as goal

pub returns-in_err-deliver_waiting-clause-moves : goal.returns-in_err-deliver_waiting-clause-moves
returns-in_err-deliver_waiting-clause-moves c = moves-from _ _ _ (cc) (moves-then _ _ _ c.send_due.ensures.moves c.deliver_waiting.ensures.moves)

pub returns-clause-moves : goal.returns-clause-moves
returns-clause-moves c = moves-from _ _ _ (cc) (moves-then _ _ _ c.send_due.ensures.moves c.deliver_waiting.ensures.moves)

pub returns-clause-begins : goal.returns-clause-begins
returns-clause-begins c =
    let on = ap (λ (m : MasterState). is_some m.stream) (c.in_ok-send_all.ensures.same ∙ c.in_ok-ended.ensures.same) ∙ c.requires.stream in
    let same = c.in_ok-beat.ensures.same ∙ c.in_ok-send_all.ensures.same ∙ c.in_ok-ended.ensures.same in
    stream-begins _ _ _ _ _ _ _ _ c.in_ok-ended.ensures.ends c.in_ok-send_all.ensures.sends (c.in_ok-beat.ensures.beats on) c.in_ok-resend_all.ensures.again same
    (steps-then _ _ _ (steps-wider sending-of-delivering _ _ c.in_ok-send_due.ensures.steps) c.in_ok-deliver_waiting.ensures.steps)
