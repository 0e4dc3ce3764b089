use Rattle.mes_msg_event_body.specs.Offers.{offers}
use Rattle.mes_model_schema.proofs.RowLemmas.{gives_same}
use Rattle.mes_msg_event_body.proofs.offers.OffersPart.read_from.Goals as goal

pub returns-in_err-offers : goal.returns-in_err-offers
unfolding offers
returns-in_err-offers c = λ t b. gives_same _ _ c.from_residual.result c.from_residual.ensures.1 (c.in_err-offers.ensures t b)
