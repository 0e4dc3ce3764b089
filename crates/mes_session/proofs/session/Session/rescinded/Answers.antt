use Rattle.std.proofs.Common.{ℕ, List, ◌∙◌, ap}
use Rattle.mes_session_state.specs.Held.{without_offer}
use Rattle.mes_session.proofs.SessionLemmas.{rescinded-next}
use Rattle.mes_session.proofs.session.Session.rescinded.Goals as goal

pub returns : goal.returns
returns c = rescinded-next _ _ c.self.view_is c.args.body.now c.remove.new.self (c.remove.ensures ∙ ap (λ (name : List ℕ). without_offer name c.self.inside.hand) c.as_str.ensures)
