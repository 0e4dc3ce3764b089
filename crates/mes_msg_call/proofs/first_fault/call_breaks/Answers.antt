use Rattle.std.specs.Prelude.{ℕ, List, codes}
use Rattle.mes_model_schema.specs.Kinds.{Kind}
use Rattle.mes_model_schema.specs.Leaves.{left_out}
use Rattle.mes_model_schema.specs.FirstRows.{RowsHave}
use Rattle.mes_model_schema.specs.declared.field.FieldFaultKind.TheVariants.{LeftOut}
use Rattle.mes_model_schema.proofs.FirstRows.{one_need, one_maybe, need_then, maybe_then, mapped_have, type_then, no_type, by_type, message_has}
use Rattle.mes_model_resource.specs.Ids.{id, lawful_id}
use Rattle.mes_msg_record.specs.Messages.{message_body}
use Rattle.mes_msg_call_body.specs.CallBodies.{subscribe, accept, decline, kill, acknowledge, reconcile, shutdown}
use Rattle.mes_msg_call.specs.Calls.{with_body, without_body, to_call, from_call, call}
use Rattle.mes_msg_call.specs.FirstFaults.{WithBody, WithoutBody}
use Rattle.mes_msg_call.proofs.first_fault.call_breaks.Goals as goal

one_body : {V : Type 0} (n : List ℕ) (k : Kind V) → RowsHave (with_body n k) (WithBody n k)
one_body n k = need_then (codes "framework_id") id lawful_id (one_need n k)

no_body : (n : List ℕ) → RowsHave (without_body n) (WithoutBody n)
no_body n = need_then (codes "framework_id") id lawful_id (one_maybe n left_out)

pub returns : goal.returns
unfolding call
returns c =
    message_has (
    mapped_have to_call from_call (
    by_type (
    type_then (codes "SUBSCRIBE") (maybe_then (codes "framework_id") id lawful_id (one_need (codes "subscribe") subscribe)) (
    type_then (codes "ACCEPT") (one_body (codes "accept") accept) (
    type_then (codes "DECLINE") (one_body (codes "decline") decline) (
    type_then (codes "REVIVE") (no_body (codes "revive")) (
    type_then (codes "KILL") (one_body (codes "kill") kill) (
    type_then (codes "ACKNOWLEDGE") (one_body (codes "acknowledge") acknowledge) (
    type_then (codes "RECONCILE") (one_body (codes "reconcile") reconcile) (
    type_then (codes "TEARDOWN") (one_need (codes "framework_id") id) (
    type_then (codes "SUPPRESS") (no_body (codes "suppress")) (
    type_then (codes "SHUTDOWN") (one_body (codes "shutdown") shutdown) (type_then (codes "MESSAGE") (one_body (codes "message") message_body) (no_type LeftOut))
    )
    )
    )
    )
    )
    )
    )
    )
    )
    )
    )
    )
