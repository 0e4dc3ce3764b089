-- The outstanding offers that a call names, one index after another.
use Rattle.std.proofs.Common.{◌≡◌, ℕ, ◌+◌, ◌<◌, true, false, take, length, slice_get, List, [], ◌∷◌, ◌++◌, Some, sym, ap, ◌∙◌}
use Rattle.std.proofs.lemmas.List.{append-nil, take_more}
use Rattle.std.proofs.lemmas.List.Elements.{filter-append}
use Rattle.std.proofs.lemmas.Option.{slice_get_within, get_or_from_slice_get}
use Rattle.mes_model.specs.Id.{Id}
use Rattle.mes_model.specs.Offer.{Offer}
use Rattle.mes_session_state.specs.Held.{names}
use Rattle.mes_double_master.specs.Masters.{named}

next : (ids : List Id) (os : List Offer) (i : ℕ) (o : Offer) → Some o ≡ slice_get os i → named ids (take (i + 1) os) ≡ named ids (take i os) ++ named ids (o ∷ [])
next ids os i o at =
    let within : i < length os = slice_get_within os i o (sym at) in
    ap (named ids) (take_more os i o within ∙ ap (λ (x : Offer). take i os ++ x ∷ []) (get_or_from_slice_get os i o o (sym at)))
    ∙ filter-append (names ids) (take i os) (o ∷ [])

pub named-next : (ids : List Id) (os : List Offer) (i : ℕ) (o : Offer) → Some o ≡ slice_get os i → names ids o ≡ true → named ids (take i os) ++ o ∷ [] ≡ named ids (take (i + 1) os)
named-next ids os i o at is = (let one : named ids (o ∷ []) ≡ o ∷ [] = rw is in ap (λ (l : List Offer). named ids (take i os) ++ l) (sym one) ∙ sym (next ids os i o at))

pub other-next : (ids : List Id) (os : List Offer) (i : ℕ) (o : Offer) → Some o ≡ slice_get os i → names ids o ≡ false → named ids (take i os) ≡ named ids (take (i + 1) os)
other-next ids os i o at is =
    let none : named ids (o ∷ []) ≡ [] = rw is in
    sym (append-nil _) ∙ ap (λ (l : List Offer). named ids (take i os) ++ l) (sym none) ∙ sym (next ids os i o at)
