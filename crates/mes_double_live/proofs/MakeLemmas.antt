-- How offers are made one after the other, and sent in one event.
use Rattle.std.proofs.Common.{◌≡◌, ◌∙◌, inl, inr, Bool, true, false, ◌||◌, ◌==◌, length, if◌then◌else◌, List, [], ◌∷◌, ◌++◌, Ok, Err, refl, sym, ap, subst}
use Rattle.std.specs.Prelude.{is_some}
use Rattle.std.specs.Str.{bytes_eq}
use Rattle.std.proofs.lemmas.List.Folds.{list_any-append}
use Rattle.std.proofs.lemmas.List.{append-nil, append_assoc, map-append}
use Rattle.std.proofs.lemmas.List.Sums.{fold-append}
use Rattle.mes_model.specs.Id.{Id}
use Rattle.mes_model.specs.Offer.{Offer}
use Rattle.mes_msg.specs.Event.{Event}
use Rattle.mes_msg.specs.Event.TheVariants.{Offers}
use Rattle.mes_session_state.specs.Held.{with_offers}
use Rattle.mes_session_state.specs.Refusals.{is_among}
use Rattle.mes_double_master_state.proofs.IdLemmas.{other_way}
use Rattle.mes_double_master.specs.Masters.{MasterState}
use Rattle.mes_double_master.specs.Sending.{Sends, is_duplicate, made, offer_ids, offers_sent}
use Rattle.mes_double_master.specs.declared.refusal.MasterRefusal.TheVariants.{NoStream, OfferTwice}
use Rattle.mes_double_live.specs.Lives.{LiveState, Pushes}
use Rattle.mes_double_live.specs.Steps.{Makes, MakesAll, MakesMore, StepsTo, IsSending}
use Rattle.mes_double_live.proofs.StepLemmas.{offered-steps, steps-same}

-- ---- identifiers of which none occurs twice

or-parts : (a b : Bool) → (a || b) ≡ false → (a ≡ false) × (b ≡ false)
or-parts true b e = absurd (cc)
or-parts false b e = (refl, e)

or-none : (a b : Bool) → a ≡ false → b ≡ false → (a || b) ≡ false
or-none a b e f = ap (λ (x : Bool). x || b) e ∙ f

among-append : (y : Id) (xs ys : List Id) → is_among y (xs ++ ys) ≡ (is_among y xs || is_among y ys)
among-append y xs ys = list_any-append (λ (x : Id). bytes_eq y.value x.value) xs ys

-- an identifier that is in the first list is not in the second
apart : (front back : List Id) (x : Id) (ys : List Id) → is_duplicate (front ++ x ∷ back) ys ≡ false → is_among x ys ≡ false
apart front back x [] none = refl
apart front back x (y ∷ ys) none =
    let both = or-parts _ _ none in
    let other : is_among y (front ++ x ∷ back) ≡ false = (or-parts _ _ both.0).0 in
    let in_back : is_among y (x ∷ back) ≡ false = (or-parts (is_among y front) (is_among y (x ∷ back)) (sym (among-append y front (x ∷ back)) ∙ other)).1 in
    or-none _ _ (other_way y.value x.value (or-parts (bytes_eq y.value x.value) (is_among y back) in_back).0) (apart front back x ys both.1)

-- the same without an identifier of the first list
fewer : (front back : List Id) (x : Id) (ys : List Id) → is_duplicate (front ++ x ∷ back) ys ≡ false → is_duplicate (front ++ back) ys ≡ false
fewer front back x [] none = refl
fewer front back x (y ∷ ys) none =
    let both = or-parts _ _ none in
    let here = or-parts _ _ both.0 in
    let parts = or-parts (is_among y front) (is_among y (x ∷ back)) (sym (among-append y front (x ∷ back)) ∙ here.0) in
    let left : is_among y (front ++ back) ≡ false = among-append y front back ∙ or-none (is_among y front) (is_among y back) parts.0 (or-parts (bytes_eq y.value x.value) (is_among y back) parts.1).1 in
    or-none _ _ (or-none _ _ left here.1) (fewer front back x ys both.1)

-- neither list has an identifier twice, nor one of those before
none-twice : (ks xs ys : List Id) → is_duplicate ks xs ≡ false → is_duplicate (ks ++ xs) ys ≡ false → is_duplicate ks (xs ++ ys) ≡ false
none-twice ks [] ys first next = ap (λ (l : List Id). is_duplicate l ys) (sym (append-nil ks)) ∙ next
none-twice ks (x ∷ xs) ys first next =
    let both = or-parts _ _ first in
    let here = or-parts _ _ both.0 in
    let far : is_among x (xs ++ ys) ≡ false = among-append x xs ys ∙ or-none _ _ here.1 (apart ks xs x ys next) in
    or-none _ _ (or-none _ _ here.0 far) (none-twice ks xs ys both.1 (fewer ks xs x ys next))

-- ---- offers that are made

record Made (m : MasterState) (list : List Offer) (n : MasterState) : Type 0 where
  stream : is_some m.stream ≡ true
  none : is_duplicate m.offered (offer_ids list) ≡ false
  is : n ≡ (made m list).1

abbrev state-or : MasterState → Sends → MasterState
state-or m (Ok sent) = sent.1
state-or m (Err why) = m

made-by : (m n : MasterState) (list : List Offer) (on twice : Bool) → is_some m.stream ≡ on → is_duplicate m.offered (offer_ids list) ≡ twice
    → (if on then (if twice then Err OfferTwice else Ok (made m list)) else Err NoStream) ≡ Ok (Offers list, n) → Made m list n
made-by m n list true false on twice e = record { stream = on; none = twice; is = sym (ap (state-or m) e) }
made-by m n list true true on twice e = absurd (cc)
made-by m n list false twice on is e = absurd (cc)

made-of : (m n : MasterState) (list : List Offer) → offers_sent m list ≡ Ok (Offers list, n) → Made m list n
made-of m n list e = made-by m n list (is_some m.stream) (is_duplicate m.offered (offer_ids list)) refl refl e

of-made : (m n : MasterState) (list : List Offer) → Made m list n → offers_sent m list ≡ Ok (Offers list, n)
of-made m n list is =
    ap (λ (b : Bool). if b then (if is_duplicate m.offered (offer_ids list) then Err OfferTwice else Ok (made m list)) else Err NoStream) is.stream
    ∙ ap (λ (b : Bool). if b then Err OfferTwice else Ok (made m list)) is.none
    ∙ ap (λ (x : MasterState). Ok (Offers list, x)) (sym is.is)

-- offers, and then others, are made as all of them at once
both-made : (m n o : MasterState) (first next : List Offer) → Made m first n → Made n next o → Made m (first ++ next) o
both-made m n o first next a b =
    let ids : offer_ids (first ++ next) ≡ offer_ids first ++ offer_ids next = map-append (λ (x : Offer). x.id) first next in
    let offered : n.offered ≡ m.offered ++ offer_ids first = ap (λ (x : MasterState). x.offered) a.is in
    let none : is_duplicate (m.offered ++ offer_ids first) (offer_ids next) ≡ false = ap (λ (l : List Id). is_duplicate l (offer_ids next)) (sym offered) ∙ b.none in
    let all : m.offered ++ offer_ids (first ++ next) ≡ (m.offered ++ offer_ids first) ++ offer_ids next =
    ap (λ (l : List Id). m.offered ++ l) ids ∙ sym (append_assoc m.offered (offer_ids first) (offer_ids next)) in
    let hand : with_offers m.outstanding (first ++ next) ≡ with_offers (with_offers m.outstanding first) next = fold-append _ m.outstanding first next in
    record {
      stream = a.stream;
      none = ap (is_duplicate m.offered) ids ∙ none-twice m.offered (offer_ids first) (offer_ids next) a.none none;
      is =
          b.is
          ∙ ap (λ (x : MasterState). (made x next).1) a.is
          ∙ ap (λ (l : List Id). record m { offered = l; outstanding = with_offers (with_offers m.outstanding first) next }) (sym all)
          ∙ ap (λ (l : List Offer). record m { offered = m.offered ++ offer_ids (first ++ next); outstanding = l }) (sym hand);
    }

one-more : (list : List Offer) (offer : Offer) (m n o : MasterState) → MakesAll list m n → Makes (Offers (offer ∷ [])) n o → MakesAll (list ++ offer ∷ []) m o
one-more [] offer m n o all one = subst (λ (x : MasterState). Makes (Offers (offer ∷ [])) x o) all one
one-more (x ∷ xs) offer m n o all one = of-made m o (x ∷ xs ++ offer ∷ []) (both-made m n o (x ∷ xs) (offer ∷ []) (made-of m n (x ∷ xs) all) (made-of n o (offer ∷ []) one))

pub makes-more : (list more : List Offer) (m n o : MasterState) → MakesAll list m n → MakesMore list n more o → MakesAll more m o
makes-more list more m n o all next = elim next [
  | inl (same, is) ↦ subst (λ (l : List Offer). MakesAll l m o) (sym same) (subst (MakesAll list m) (sym is) all)
  | inr (offer, is, one) ↦ subst (λ (l : List Offer). MakesAll l m o) (sym is) (one-more list offer m n o all one)
]

-- ---- offers that are sent

-- all offers that were made are sent in one event
offered-all : (list : List Offer) (a b c : LiveState) → (length list == 0) ≡ false → MakesAll list a.master b.master → b ≡ record a { master = b.master; cluster = b.cluster }
    → b.cluster.tasks ≡ a.cluster.tasks → Pushes (Offers list) b c → StepsTo IsSending a c
offered-all [] a b c full all rest tasks pushes = absurd (cc)
offered-all (x ∷ xs) a b c full all rest tasks pushes =
    offered-steps (x ∷ xs) a b c all (ap (λ (l : LiveState). l.out) rest) tasks (ap (λ (l : LiveState). l.waiting) rest) (ap (λ (l : LiveState). l.time) rest) pushes

pub all-offered : (list : List Offer) (event : Event) (a b c : LiveState) → (length list == 0) ≡ false → event ≡ Offers list → MakesAll list a.master b.master
    → b ≡ record a { master = b.master; cluster = b.cluster } → b.cluster.tasks ≡ a.cluster.tasks → Pushes event b c → StepsTo IsSending a c
all-offered list event a b c full is all rest tasks pushes = offered-all list a b c full all rest tasks (subst (λ (e : Event). Pushes e b c) is pushes)

-- no offer was made
pub none-offered : (list : List Offer) (a b : LiveState) → list ≡ [] → MakesAll list a.master b.master → b ≡ record a { master = b.master; cluster = b.cluster }
    → b.cluster.tasks ≡ a.cluster.tasks → StepsTo IsSending a b
none-offered list a b empty all rest tasks =
    let master : b.master ≡ a.master = subst (λ (l : List Offer). MakesAll l a.master b.master) empty all in
    steps-same a b (record { master = master; body = ap (λ (l : LiveState). l.out) rest; tasks = tasks; waiting = ap (λ (l : LiveState). l.waiting) rest })
