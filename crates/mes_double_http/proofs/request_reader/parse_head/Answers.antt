use Rattle.std.proofs.Common.{rules, refl}
use Rattle.mes_double_http.proofs.ReceivedLemmas.{request-front, none-never, none-exceeds, none-lines, pends-target}
use Rattle.mes_double_http.proofs.request_reader.parse_head.Goals as goal

pub returns-in-Ok-Complete : goal.returns-in-Ok-Complete
returns-in-Ok-Complete c =
    let found = rw c.in-Ok-Complete.field-0-is at c.in-Ok-Complete.ensures.complete in
    let within = rw c.in-Ok-Complete.field-0-is at c.in-Ok-Complete.ensures.within in
    request-front c.args.front.now c.parse_request.new.headers c.in-Ok-Complete.head c.requires (search rules) found within

pub returns-then-field_lines-gt-MAX_FIELDS : goal.returns-then-field_lines-gt-MAX_FIELDS
returns-then-field_lines-gt-MAX_FIELDS c = (refl, none-lines c.args.front.now (search rules) (search rules))

pub returns-in-Err-TooManyHeaders : goal.returns-in-Err-TooManyHeaders
returns-in-Err-TooManyHeaders c = (refl, none-exceeds c.args.front.now (search rules) (search rules))

pub returns-then-waits_in_target : goal.returns-then-waits_in_target
returns-then-waits_in_target c = pends-target c.args.front.now (search rules) (search rules)

pub returns-else-waits_in_target : goal.returns-else-waits_in_target
returns-else-waits_in_target c = (refl, none-never c.args.front.now (search rules) (search rules))
