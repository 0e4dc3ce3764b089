use Rattle.std.proofs.Common.{sym}
use Rattle.mes_msg_event_body.proofs.NameLemmas.{is_other}
use Rattle.mes_msg_event_body.proofs.other_name.is_read.Goals as goal

pub returns-in_default : goal.returns-in_default
returns-in_default c =
    sym (
    is_other c.args.name.now c.in_default.not-SUBSCRIBED c.in_default.not-OFFERS c.in_default.not-RESCIND c.in_default.not-UPDATE
    c.in_default.not-MESSAGE c.in_default.not-FAILURE c.in_default.not-ERROR c.in_default.not-HEARTBEAT
    )
