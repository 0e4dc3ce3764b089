-- A SUBSCRIBE changes nothing of a session.
use Rattle.std.proofs.Common.{◌≡◌, List, [], ◌∷◌, true, Option, Result, Ok, Err, refl, ap, ap₂}
use Rattle.std.specs.Prelude.{OnErr, filter}
use Rattle.mes_model.specs.Id.{Id}
use Rattle.mes_model.specs.Offer.{Offer}
use Rattle.mes_model.specs.OwedKey.{OwedKey}
use Rattle.mes_model.specs.declared.framework_info.FrameworkInfo.{FrameworkInfo}
use Rattle.mes_msg.specs.declared.entry.Entry.TheVariants.{Said}
use Rattle.mes_session.specs.History.{after}
use Rattle.mes_session_calls.specs.Made.{subscribe_call}
use Rattle.mes_session_state.specs.Held.{Held}

keep_all : {X : Type 0} (xs : List X) → filter (λ (x : X). true) xs ≡ xs
keep_all [] = refl
keep_all (x ∷ xs) = ap (λ ys. x ∷ ys) (keep_all xs)

pub subscribe_keeps : (s : Held) (known : Option Id) (info : FrameworkInfo) → after s (Said (subscribe_call known info)) ≡ s
subscribe_keeps s known info = ap₂ (λ (hand : List Offer) (owed : List OwedKey). record s { hand = hand; owed = owed }) (keep_all s.hand) (keep_all s.owed)

-- what holds always holds for an error
pub on_err : {T E P : Type 0} (result : Result T E) → P → OnErr result P
on_err (Ok value) h = tt
on_err (Err why) h = h
