use Rattle.std.proofs.Common.{◌∙◌, ap}
use Rattle.mes_session_state.specs.Held.{with_key}
use Rattle.mes_session_state.proofs.UpdateKeyLemmas.{put_key}
use Rattle.mes_session_state.proofs.update_keys.UpdateKeys.add.Goals as goal

pub returns-clause-ok : goal.returns-clause-ok
returns-clause-ok c = c.in_ok-insert.ensures.keys ∙ put_key c.args.key c.self.inside.keys.keys ∙ ap (λ ks. with_key ks c.args.key) c.self.view_is
