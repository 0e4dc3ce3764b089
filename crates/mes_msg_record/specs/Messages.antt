-- The body of MESSAGE as a table of members (scheduler.proto, `Event.Message` and `Call.Message`).
use Rattle.std.specs.Prelude.{codes}
use Rattle.std.proofs.Common.{refl}
use Rattle.mes_model_schema.specs.Binary.{base64_bytes}
use Rattle.mes_model_schema.specs.BinaryLaws.{lawful_base64_bytes}
use Rattle.mes_model_schema.specs.Kinds.{Kind, Lawful, Returns}
use Rattle.mes_model_schema.specs.Layouts.{Layout, needs, no_more, ◌⨾⨾◌, laid_out, kind_of, lawful_kind, returns_kind}
use Rattle.mes_model_resource.specs.Ids.{id, lawful_id}
use Rattle.mes_msg_record.specs.declared.message.Message.{Message}

-- the members of a MESSAGE body; agent_id, executor_id, data: required
abbrev pub message_body_layout : Layout Message
message_body_layout =
    laid_out (
    needs (codes "agent_id") id lawful_id
    ⨾⨾ needs (codes "executor_id") id lawful_id
    ⨾⨾ needs (codes "data") base64_bytes lawful_base64_bytes
    ⨾⨾ no_more
    ) (λ x. record { agent_id = x.0; executor_id = x.1.0; payload = x.1.1.0 }) (λ v. (v.agent_id, (v.executor_id, (v.payload, tt)))) (λ v. refl)

unfoldable pub message_body : Kind Message
message_body = kind_of message_body_layout

pub lawful_message_body : Lawful message_body message_body_layout.rows.steps
unfolding message_body
lawful_message_body = lawful_kind message_body_layout refl

pub message_body_back : (v : Message) → message_body_layout.rows.table.Back (message_body_layout.from v) → Returns message_body v
unfolding message_body
message_body_back v back = returns_kind message_body_layout refl v back
