use Rattle.mes_stream.proofs.LineRecords.{some_record}
use Rattle.mes_stream.proofs.LineTooLong.{begun_before, begun_cr, cr_inside, passes_after, passes_at, room_inside}
use Rattle.mes_stream.proofs.line_body.too_long_at.Goals as goal

pub returns-then-line-room-eq-CR-clause-passes : goal.returns-then-line-room-eq-CR-clause-passes
returns-then-line-room-eq-CR-clause-passes c = λ x limit full is.
    let has = some_record c.args.line.now in
    let more = c.requires has.0 has.1 in
    passes_after x c.args.line.now c.args.room limit full is (room_inside c.args.line.now c.args.room has.0 has.1 more) c.if-line-room-eq-CR.true
    (cr_inside c.args.line.now c.args.room has.0 has.1 more c.if-line-room-eq-CR.true)

pub returns-then-line-room-eq-CR-clause-before : goal.returns-then-line-room-eq-CR-clause-before
returns-then-line-room-eq-CR-clause-before c = λ x limit full is n le.
    let has = some_record c.args.line.now in
    begun_cr x c.args.line.now c.args.room limit full is (room_inside c.args.line.now c.args.room has.0 has.1 (c.requires has.0 has.1)) c.if-line-room-eq-CR.true n le

pub returns-else-line-room-eq-CR-clause-passes : goal.returns-else-line-room-eq-CR-clause-passes
returns-else-line-room-eq-CR-clause-passes c = λ x limit full is.
    let has = some_record c.args.line.now in
    passes_at x c.args.line.now c.args.room limit full is (room_inside c.args.line.now c.args.room has.0 has.1 (c.requires has.0 has.1)) c.if-line-room-eq-CR.false

pub returns-else-line-room-eq-CR-clause-before : goal.returns-else-line-room-eq-CR-clause-before
returns-else-line-room-eq-CR-clause-before c = λ x limit full is n le.
    let has = some_record c.args.line.now in
    begun_before x c.args.line.now c.args.room limit full is (room_inside c.args.line.now c.args.room has.0 has.1 (c.requires has.0 has.1)) n le
