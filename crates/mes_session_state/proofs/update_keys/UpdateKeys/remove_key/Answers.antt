use Rattle.std.proofs.Common.{rules, ◌∙◌, ap}
use Rattle.std.proofs.lemmas.Fn.{filter_same}
use Rattle.mes_session_state.specs.Held.{without_key}
use Rattle.mes_session_state.proofs.update_keys.UpdateKeys.remove_key.Goals as goal

pub returns : goal.returns
returns c =
    filter_same _ _ _ (λ x b f call. search rules) c.self.inside.keys.keys _ c.retain.ensures.filtered
    ∙ ap (without_key (record { agent = c.args.agent.now; task = c.args.task.now; uuid = c.args.uuid.now })) c.self.view_is
