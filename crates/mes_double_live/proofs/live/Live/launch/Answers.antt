use Rattle.std.proofs.Common.{◌∙◌, List, None, ap}
use Rattle.mes_model.specs.Id.{Id}
use Rattle.mes_session_state.specs.Calls.{accept_call}
use Rattle.mes_double_live.proofs.FitLemmas.{launch-moves}
use Rattle.mes_double_live.proofs.LaunchLemmas.{launched-handles}
use Rattle.mes_double_live.proofs.live.Live.launch.Goals as goal

pub returns-clause-moves : goal.returns-clause-moves
returns-clause-moves c =
    launch-moves _ _ _ _ _ _ _ _ _ c.self.view_is c.requires.fits
    (c.in_ok-call.ensures ∙ ap (λ (ids : List Id). accept_call c.args.framework.now ids c.args.tasks.now None) c.as_slice-ids.ensures) c.in_ok-answer.ensures.ok.master_is

pub returns-clause-handles : goal.returns-clause-handles
returns-clause-handles c =
    launched-handles _ _ _ _ _ _ _ _ c.self.view_is c.requires
    (c.in_ok-call.ensures ∙ ap (λ (ids : List Id). accept_call c.args.framework.now ids c.args.tasks.now None) c.as_slice-ids.ensures) c.in_ok-answer.ensures.ok.master_is
