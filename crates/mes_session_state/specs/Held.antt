-- The state of a framework's session.
use Rattle.std.specs.Prelude.{Bool, ◌&&◌, not, fold, filter, find, List, Option}
use Rattle.std.specs.List.{list_any}
use Rattle.std.specs.Str.{bytes_eq}
use Rattle.std.specs.Prelude.{ℕ}
use Rattle.mes_model.specs.Id.{Id}
use Rattle.mes_model.specs.Offer.{Offer}
use Rattle.mes_model.specs.OwedKey.{OwedKey}
use Rattle.mes_session_state.specs.Keeping.{put}

-- the framework, if known; whether the stream is connected; the outstanding offers (`hand`); the
-- keys of the unacknowledged updates (`owed`)
pub record Held : Type 0 where
  pub framework : Option Id
  pub connected : Bool
  pub hand : List Offer
  pub owed : List OwedKey

-- ---- outstanding offers

-- the identifier of an offer
abbrev pub name_of : Offer → List ℕ
name_of o = o.id.value

-- the outstanding offer with the identifier `name`
abbrev pub offer_in : List Offer → List ℕ → Option Offer
offer_in hand name = find (λ o. bytes_eq name (name_of o)) hand

-- adds offers in order; an offer with the identifier of an earlier offer replaces it in its place
abbrev pub with_offers : List Offer → List Offer → List Offer
with_offers hand offers = fold (put bytes_eq name_of) hand offers

-- removes the offer with the identifier `name`
abbrev pub without_offer : List ℕ → List Offer → List Offer
without_offer name hand = filter (λ o. not (bytes_eq name (name_of o))) hand

-- true if and only if one of the identifiers is that of the offer
abbrev pub names : List Id → Offer → Bool
names ids o = list_any (λ (d : Id). bytes_eq d.value (name_of o)) ids

abbrev pub without_offers : List Id → List Offer → List Offer
without_offers ids hand = filter (λ o. not (names ids o)) hand

-- ---- unacknowledged updates

abbrev pub same_key : OwedKey → OwedKey → Bool
same_key k l = bytes_eq k.agent.value l.agent.value && (bytes_eq k.task.value l.task.value && bytes_eq k.uuid l.uuid)

abbrev pub is_owed : OwedKey → List OwedKey → Bool
is_owed k owed = list_any (same_key k) owed

-- adds a key; a key that is present stays in its place
abbrev pub with_key : List OwedKey → OwedKey → List OwedKey
with_key owed k = put same_key (λ (l : OwedKey). l) owed k

-- removes a key
abbrev pub without_key : OwedKey → List OwedKey → List OwedKey
without_key k owed = filter (λ l. not (same_key k l)) owed
