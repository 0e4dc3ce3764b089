use Rattle.std.proofs.Common.{ap, sym, ◌∙◌}
use Rattle.mesosev_session.specs.declared.text_session.TextSession.{TextSession}
use Rattle.mesosev_c.proofs.SessionLemmas.{answers_same}
use Rattle.mesosev_c.proofs.session_exports.mes_c_session_acknowledge.Goals as goal

pub returns : goal.returns
returns c =
    let held = c.reach-session.ensures.value in
    let entries = c.entries-before.ensures ∙ ap (λ (s : TextSession). s.entries) held in
    let ensured = c.acknowledge-answer.ensures in
    answers_same _ _ _ _ _ _ _ _ c.acknowledge-answer.result (rw (sym held) ensured.ok) (rw (sym held) ensured.err) (rw (sym held) ensured.same) (rw (sym entries) c.put_answer.ensures)
