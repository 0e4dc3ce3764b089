-- The calls of the scheduler API in JSON as a table of members (scheduler.proto, `Call`).
use Rattle.std.specs.Prelude.{◌≡◌, ◌⊎◌, ℕ, ◌+◌, max, List, [], ◌∷◌, Option, None, codes}
use Rattle.std.proofs.Common.{inl, inr, refl}
use Rattle.mes_model_schema.specs.Kinds.{Kind, Lawful, Returns}
use Rattle.mes_model_schema.specs.Leaves.{left_out}
use Rattle.mes_model_schema.specs.Rows.{Table, need, maybe, ◌⨾◌, mapped, message}
use Rattle.mes_model_schema.specs.Choices.{no_other, case, typed}
use Rattle.mes_model_schema.specs.RowLaws.{LawfulTable, lawful_need, lawful_maybe, lawful_left_out}
use Rattle.mes_model_schema.specs.MessageLaws.{lawful_both, lawful_mapped, lawful_message, message_returns}
use Rattle.mes_model_schema.specs.ChoiceLaws.{lawful_no_other, lawful_case, lawful_typed}
use Rattle.mes_model_schema.specs.declared.field.FieldFaultKind.TheVariants.{LeftOut}
use Rattle.mes_model_resource.specs.Ids.{id, lawful_id}
use Rattle.mes_model_resource.specs.declared.id.Id.{Id}
use Rattle.mes_msg_record.specs.Messages.{message_body, lawful_message_body}
use Rattle.mes_msg_call_body.specs.CallBodies.{subscribe, accept, decline, kill, acknowledge, reconcile, shutdown, lawful_subscribe, lawful_accept, lawful_decline, lawful_kill, lawful_acknowledge, lawful_reconcile, lawful_shutdown}
use Rattle.mes_msg_record.specs.declared.message.Message.{Message}
use Rattle.mes_msg_call_body.specs.declared.subscribe.Subscribe.{Subscribe}
use Rattle.mes_msg_call_body.specs.declared.accept.Accept.{Accept}
use Rattle.mes_msg_call_body.specs.declared.decline.Decline.{Decline}
use Rattle.mes_msg_call_body.specs.declared.kill.Kill.{Kill}
use Rattle.mes_msg_call_body.specs.declared.acknowledge.Acknowledge.{Acknowledge}
use Rattle.mes_msg_call_body.specs.declared.reconcile.Reconcile.{Reconcile}
use Rattle.mes_msg_call_body.specs.declared.shutdown.Shutdown.{Shutdown}
use Rattle.mes_msg_call.specs.declared.call.Call.{Call}
use Rattle.mes_msg_call.specs.declared.call.Call.TheVariants as of

-- the members of a call with a body; framework_id: required; the member with the body: required
abbrev pub with_body : {V : Type 0} → List ℕ → Kind V → Table (Id × V)
with_body n k = need (codes "framework_id") id ⨾ need n k

-- the members of a call without a body; framework_id: required; a member of this name: unsupported
abbrev pub without_body : List ℕ → Table (Id × Option ⊥)
without_body n = need (codes "framework_id") id ⨾ maybe n left_out

-- the values of the members of a call: one alternative for each type
abbrev pub CallRows : Type 0
CallRows = (Option Id × Subscribe) ⊎ (Id × Accept) ⊎ (Id × Decline) ⊎ (Id × Option ⊥) ⊎ (Id × Kill) ⊎ (Id × Acknowledge) ⊎ (Id × Reconcile) ⊎ Id ⊎ (Id × Option ⊥) ⊎ (Id × Shutdown) ⊎ (Id × Message) ⊎ ⊥

abbrev pub to_call : CallRows → Call
to_call (inl x) = of.Subscribe x.0 x.1
to_call (inr (inl x)) = of.Accept x.0 x.1
to_call (inr (inr (inl x))) = of.Decline x.0 x.1
to_call (inr (inr (inr (inl x)))) = of.Revive x.0
to_call (inr (inr (inr (inr (inl x))))) = of.Kill x.0 x.1
to_call (inr (inr (inr (inr (inr (inl x)))))) = of.Acknowledge x.0 x.1
to_call (inr (inr (inr (inr (inr (inr (inl x))))))) = of.Reconcile x.0 x.1
to_call (inr (inr (inr (inr (inr (inr (inr (inl x)))))))) = of.Teardown x
to_call (inr (inr (inr (inr (inr (inr (inr (inr (inl x))))))))) = of.Suppress x.0
to_call (inr (inr (inr (inr (inr (inr (inr (inr (inr (inl x)))))))))) = of.Shutdown x.0 x.1
to_call (inr (inr (inr (inr (inr (inr (inr (inr (inr (inr (inl x))))))))))) = of.Message x.0 x.1
to_call (inr (inr (inr (inr (inr (inr (inr (inr (inr (inr (inr v))))))))))) = absurd v

abbrev pub from_call : Call → CallRows
from_call (of.Subscribe framework body) = inl (framework, body)
from_call (of.Accept framework body) = inr (inl (framework, body))
from_call (of.Decline framework body) = inr (inr (inl (framework, body)))
from_call (of.Revive framework) = inr (inr (inr (inl (framework, None))))
from_call (of.Kill framework body) = inr (inr (inr (inr (inl (framework, body)))))
from_call (of.Acknowledge framework body) = inr (inr (inr (inr (inr (inl (framework, body))))))
from_call (of.Reconcile framework body) = inr (inr (inr (inr (inr (inr (inl (framework, body)))))))
from_call (of.Teardown framework) = inr (inr (inr (inr (inr (inr (inr (inl framework)))))))
from_call (of.Suppress framework) = inr (inr (inr (inr (inr (inr (inr (inr (inl (framework, None)))))))))
from_call (of.Shutdown framework body) = inr (inr (inr (inr (inr (inr (inr (inr (inr (inl (framework, body))))))))))
from_call (of.Message framework body) = inr (inr (inr (inr (inr (inr (inr (inr (inr (inr (inl (framework, body)))))))))))

-- the members of a call; type, the body of that type, framework_id (optional in SUBSCRIBE):
-- required; another type is a fault
abbrev pub call_rows : Table Call
call_rows =
    mapped (typed (
    case (codes "SUBSCRIBE") (maybe (codes "framework_id") id ⨾ need (codes "subscribe") subscribe) (
    case (codes "ACCEPT") (with_body (codes "accept") accept) (
    case (codes "DECLINE") (with_body (codes "decline") decline) (
    case (codes "REVIVE") (without_body (codes "revive")) (
    case (codes "KILL") (with_body (codes "kill") kill) (
    case (codes "ACKNOWLEDGE") (with_body (codes "acknowledge") acknowledge) (
    case (codes "RECONCILE") (with_body (codes "reconcile") reconcile) (
    case (codes "TEARDOWN") (need (codes "framework_id") id) (
    case (codes "SUPPRESS") (without_body (codes "suppress")) (
    case (codes "SHUTDOWN") (with_body (codes "shutdown") shutdown) (
    case (codes "MESSAGE") (with_body (codes "message") message_body) (
    no_other LeftOut
    )
    )
    )
    )
    )
    )
    )
    )
    )
    )
    )
    )) to_call from_call

-- the names of the members of a call
abbrev pub call_members : List (List ℕ)
call_members =
    codes "type" ∷ codes "framework_id" ∷ codes "subscribe" ∷ codes "accept" ∷ codes "decline" ∷ codes "revive" ∷ codes "kill" ∷ codes "acknowledge" ∷ codes "reconcile"
    ∷ codes "suppress" ∷ codes "shutdown" ∷ codes "message" ∷ []

unfoldable pub call : Kind Call
call = message call_rows

-- ---- the laws of the kind of calls

to_from_call : (v : Call) → to_call (from_call v) ≡ v
to_from_call (of.Subscribe framework body) = refl
to_from_call (of.Accept framework body) = refl
to_from_call (of.Decline framework body) = refl
to_from_call (of.Revive framework) = refl
to_from_call (of.Kill framework body) = refl
to_from_call (of.Acknowledge framework body) = refl
to_from_call (of.Reconcile framework body) = refl
to_from_call (of.Teardown framework) = refl
to_from_call (of.Suppress framework) = refl
to_from_call (of.Shutdown framework body) = refl
to_from_call (of.Message framework body) = refl

-- the law of a call with a body, whose faults are at least as deep as those of framework_id
lawful_with_body : {V : Type 0} {n : List ℕ} {k : Kind V} {steps : ℕ} → Lawful k steps → LawfulTable (with_body n k) (max 2 (1 + steps))
lawful_with_body lawful = lawful_both (lawful_need lawful_id) (lawful_need lawful)

lawful_without_body : {n : List ℕ} → LawfulTable (without_body n) 2
lawful_without_body = lawful_both (lawful_need lawful_id) lawful_left_out

pub lawful_call_rows : LawfulTable call_rows 14
lawful_call_rows =
    lawful_mapped _ _ (
    lawful_typed (lawful_both (lawful_maybe lawful_id) (lawful_need lawful_subscribe)) (
    lawful_case (lawful_with_body lawful_accept) (
    lawful_case (lawful_with_body lawful_decline) (
    lawful_case lawful_without_body (
    lawful_case (lawful_with_body lawful_kill) (
    lawful_case (lawful_with_body lawful_acknowledge) (
    lawful_case (lawful_with_body lawful_reconcile) (
    lawful_case (lawful_need lawful_id) (
    lawful_case lawful_without_body (
    lawful_case (lawful_with_body lawful_shutdown) (
    lawful_case (lawful_with_body lawful_message_body) lawful_no_other
    )
    )
    )
    )
    )
    )
    )
    )
    )
    ) refl
    ) to_from_call

pub lawful_call : Lawful call 14
unfolding call
lawful_call = lawful_message lawful_call_rows refl

pub call_back : (v : Call) → call_rows.Back v → Returns call v
unfolding call
call_back v back = message_returns lawful_call_rows refl v back
