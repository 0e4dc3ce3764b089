use Rattle.std.proofs.Common.{◌∙◌, ap, is_none}
use Rattle.mes_session_state.specs.Held.{offer_in}
use Rattle.mes_session_state.proofs.NamedLemmas.{flipped, copied-none}
use Rattle.mes_session_state.proofs.named_offers.is_missing.Goals as goal

pub returns : goal.returns
returns c = flipped _ _ c.is_none.ensures ∙ copied-none c.get.result ∙ ap is_none (c.get.ensures ∙ ap (offer_in c.args.hand.now) c.as_str.ensures)
