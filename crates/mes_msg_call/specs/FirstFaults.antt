-- The first fault of a call, member by member in the order of its table.
use Rattle.std.specs.Prelude.{ℕ, List, codes}
use Rattle.mes_model_schema.specs.Kinds.{Kind}
use Rattle.mes_model_schema.specs.Leaves.{left_out}
use Rattle.mes_model_schema.specs.FirstFaults.{OptionalBreaks, NeedBreaks}
use Rattle.mes_model_schema.specs.FirstRows.{OfRows, NeedThen, MaybeThen, TypeThen, NoType, ByType}
use Rattle.mes_model_schema.specs.declared.field.FieldFaultKind.TheVariants.{LeftOut}
use Rattle.mes_model_resource.specs.Ids.{id}
use Rattle.mes_msg_record.specs.Messages.{message_body}
use Rattle.mes_msg_call_body.specs.CallBodies.{subscribe, accept, decline, kill, acknowledge, reconcile, shutdown}

-- the first fault of the members framework_id and the body, both required
abbrev pub WithBody : {V : Type 0} → List ℕ → Kind V → OfRows
WithBody n k = NeedThen (codes "framework_id") id (NeedBreaks k n)

-- the first fault of the required member framework_id and of an unsupported member of this name
abbrev pub WithoutBody : List ℕ → OfRows
WithoutBody n = NeedThen (codes "framework_id") id (OptionalBreaks left_out n)

-- the first fault of the members; type, framework_id (optional in SUBSCRIBE), the body of that
-- type: required; another type is a fault
abbrev pub OfCall : OfRows
OfCall =
    ByType (
    TypeThen (codes "SUBSCRIBE") (MaybeThen (codes "framework_id") id (NeedBreaks subscribe (codes "subscribe"))) (
    TypeThen (codes "ACCEPT") (WithBody (codes "accept") accept) (
    TypeThen (codes "DECLINE") (WithBody (codes "decline") decline) (
    TypeThen (codes "REVIVE") (WithoutBody (codes "revive")) (
    TypeThen (codes "KILL") (WithBody (codes "kill") kill) (
    TypeThen (codes "ACKNOWLEDGE") (WithBody (codes "acknowledge") acknowledge) (
    TypeThen (codes "RECONCILE") (WithBody (codes "reconcile") reconcile) (
    TypeThen (codes "TEARDOWN") (NeedBreaks id (codes "framework_id")) (
    TypeThen (codes "SUPPRESS") (WithoutBody (codes "suppress")) (
    TypeThen (codes "SHUTDOWN") (WithBody (codes "shutdown") shutdown) (
    TypeThen (codes "MESSAGE") (WithBody (codes "message") message_body) (
    NoType LeftOut
    )
    )
    )
    )
    )
    )
    )
    )
    )
    )
    )
    )
