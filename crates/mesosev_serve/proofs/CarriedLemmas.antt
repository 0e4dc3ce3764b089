-- A call that is carried out has status 202, and after status 200 the master has a current stream.
use Rattle.std.proofs.Common.{◌≡◌, ℕ, Bool, true, false, if◌then◌else◌, List, [], ◌∷◌, Option, Some, None, refl, arith}
use Rattle.std.specs.Prelude.{IsSome}
use Rattle.mes_msg.specs.Call.{Call}
use Rattle.mes_msg.specs.Call.TheVariants as of
use Rattle.mes_double_master.specs.Masters.{MasterState, MasterAnswer, plain, subscribed, carried_out, is_named, in_stream, is_subscribe, handled}

-- the response to a call that is carried out has status 202
carried_status : (m : MasterState) (call : Call) → (carried_out m call).status ≡ 202
carried_status m (of.Subscribe framework body) = refl
carried_status m (of.Accept framework body) = refl
carried_status m (of.Decline framework body) = refl
carried_status m (of.Revive framework) = refl
carried_status m (of.Kill framework body) = refl
carried_status m (of.Acknowledge framework body) = refl
carried_status m (of.Reconcile framework body) = refl
carried_status m (of.Teardown framework) = refl
carried_status m (of.Suppress framework) = refl
carried_status m (of.Shutdown framework body) = refl
carried_status m (of.Message framework body) = refl

abbrev HasStream : MasterAnswer → Type 0
HasStream answer = IsSome answer.master.stream

subscribed_stream : (m : MasterState) (uuids : List (List ℕ)) → (subscribed m uuids).status ≡ 200 → HasStream (subscribed m uuids)
subscribed_stream m [] e = absurd (omega arith)
subscribed_stream m (uuid ∷ uuids) e = refl

not_both : (n : ℕ) → n ≡ 202 → n ≡ 200 → ⊥
not_both n carried ok = omega arith

pub not_carried : (m : MasterState) (call : Call) (b : Bool) → (if b then carried_out m call else plain 400 m).status ≡ 200 → ⊥
not_carried m call true e = not_both (carried_out m call).status (carried_status m call) e
not_carried m call false e = omega arith

-- after a response with status 200 the master has a current stream
pub ok_stream : (m : MasterState) (call : Call) (given : Option (List ℕ)) → (handled m call given).status ≡ 200 → HasStream (handled m call given)
ok_stream m call given e = by _ (is_subscribe call) m.stream e
  where
    by : (b c : Bool) (s : Option (List ℕ))
        → (if b then plain 403 m else (if c then subscribed m m.ids else in_stream m call s given)).status ≡ 200
        → HasStream (if b then plain 403 m else (if c then subscribed m m.ids else in_stream m call s given))
    by true c s e = absurd (omega arith)
    by false true s e = subscribed_stream m m.ids e
    by false false None e = absurd (omega arith)
    by false false (Some current) e = absurd (not_carried m call (is_named current given) e)
