-- The offers in stock, and what happens to each of them.
use Rattle.std.specs.Prelude.{ℕ, ◌&&◌, nat_le, Bool, false, if◌then◌else◌, List, ◌++◌, filter_map, slice_get, slice_set, Option, Some, None, codes, decimal}
use Rattle.std.specs.List.{list_any}
use Rattle.std.specs.Str.{bytes_eq}
use Rattle.mes_model.specs.Id.{Id}
use Rattle.mes_model.specs.Offer.{Offer}
use Rattle.mes_double_cluster.specs.declared.offer_state.OfferState.{OfferState}
use Rattle.mes_double_cluster.specs.declared.offer_state.OfferState.TheVariants.{Free, Outstanding, Withdrawn}
use Rattle.mes_double_cluster.specs.declared.stocked_offer.StockedOffer.{StockedOffer}
use Rattle.mes_double_cluster.specs.Times.{saturated_sum}
use Rattle.mes_double_cluster.specs.OfferStates as state

abbrev pub same_id : Id → Id → Bool
same_id a b = bytes_eq a.value b.value

-- an offer of the stock that was never made
abbrev pub stocked : Offer → StockedOffer
stocked offer = record { name = offer.id.value; rounds = 0; offer = offer; state = Free 0 }

-- the identifier of an offer in a round: its name, and from the second round on the round's number
abbrev pub round_id : List ℕ → ℕ → Id
round_id name round = record { value = if nat_le 2 round then name ++ codes "-" ++ decimal round else name }

-- with the identifier of this round
abbrev pub in_round : ℕ → StockedOffer → StockedOffer
in_round round s = record s { rounds = round; offer = record s.offer { id = round_id s.name round } }

-- with the identifier of the next round
abbrev pub renamed : StockedOffer → StockedOffer
renamed s = in_round (saturated_sum s.rounds 1) s

-- true if the offer is outstanding under this identifier
abbrev pub is_outstanding : Id → StockedOffer → Bool
is_outstanding id s = state.is_made s.state && same_id s.offer.id id

-- true if the offer is outstanding under one of these identifiers
abbrev pub is_named : List Id → StockedOffer → Bool
is_named ids s = list_any (λ id. is_outstanding id s) ids

-- ---- the offer at an index

abbrev pub is_due_of : ℕ → Option StockedOffer → Bool
is_due_of now None = false
is_due_of now (Some s) = state.is_due now s.state

-- true if the offer at an index may be made at the time `now`
abbrev pub is_due_at : ℕ → ℕ → List StockedOffer → Bool
is_due_at index now stock = is_due_of now (slice_get stock index)

abbrev pub renamed_of : ℕ → List StockedOffer → Option StockedOffer → Option Offer × List StockedOffer
renamed_of index stock None = (None, stock)
renamed_of index stock (Some s) = (Some (renamed s).offer, slice_set stock index (renamed s))

-- the offer at an index under the identifier of its next round, and the stock with it
abbrev pub renamed_at : ℕ → List StockedOffer → Option Offer × List StockedOffer
renamed_at index stock = renamed_of index stock (slice_get stock index)

-- ---- an offer after an event

abbrev pub with_state : OfferState → StockedOffer → StockedOffer
with_state new s = record s { state = new }

abbrev pub made : StockedOffer → StockedOffer
made s = with_state Outstanding s

abbrev pub returned : ℕ → StockedOffer → StockedOffer
returned now s = with_state (state.returned now s.state) s

abbrev pub revived : StockedOffer → StockedOffer
revived s = with_state (state.revived s.state) s

abbrev pub after_task : ℕ → ℕ → StockedOffer → StockedOffer
after_task launch now s = with_state (state.after_task launch now s.state) s

-- a declined offer is free from `time` on
abbrev pub declined : List Id → ℕ → StockedOffer → StockedOffer
declined ids time s = if is_named ids s then with_state (Free time) s else s

abbrev pub rescinded : Id → StockedOffer → StockedOffer
rescinded id s = if is_outstanding id s then with_state Withdrawn s else s

-- an accepted offer is used by the tasks of the launch
abbrev pub accepted : List Id → ℕ → ℕ → ℕ → StockedOffer → StockedOffer
accepted ids launch tasks time s = if is_named ids s then with_state (state.accepted launch tasks time) s else s

-- ---- times

-- the times at which the free offers may be made
abbrev pub times_of : List StockedOffer → List ℕ
times_of stock = filter_map (λ (s : StockedOffer). state.due_from s.state) stock
