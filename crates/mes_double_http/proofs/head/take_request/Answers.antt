use Rattle.std.proofs.Common.{rules, ◌≤◌}
use Rattle.mes_double_http.specs.Heads.{field_lines}
use Rattle.mes_double_http.specs.declared.limits.TheConstants.{MAX_FIELDS}
use Rattle.mes_double_http.proofs.HeadLemmas.{request-start, request-taken, request-over, took-push, few-push, request-never, request-goes_on}
use Rattle.mes_double_http.proofs.head.take_request.Goals.{else-byte-eq10-via-then-byte-eq10+else-field_lines-gt-MAX_FIELDS, else-byte-eq10-via-else-byte-eq10}
use Rattle.mes_double_http.proofs.head.take_request.Goals as goal

pub loop-reader-init : goal.loop-reader-init
loop-reader-init g c = request-start _ _ _ c.clear.ensures

pub returns-in-Ok-Complete-clause-ok : goal.returns-in-Ok-Complete-clause-ok
returns-in-Ok-Complete-clause-ok g c =
    let found = rw c.in-Ok-Complete.field-0-is at c.in-Ok-Complete.ensures.complete in
    let within = rw c.in-Ok-Complete.field-0-is at c.in-Ok-Complete.ensures.within in
    request-taken c.loop-reader.taken.items c.push.new.self.items c.in_ok-byte.byte c.parse_request.new.headers c.in-Ok-Complete.head c.loop-reader.invariant.pends.0
    (search rules) c.push.ensures.items (search rules) (rw c.as_slice.ensures.value at found) (rw c.as_slice.ensures.value at within)

pub loop-reader-preserved-else-byte-eq10 : goal.loop-reader-preserved-else-byte-eq10
loop-reader-preserved-else-byte-eq10 g c =
    let few : field_lines c.push.new.self.items ≤ MAX_FIELDS = elim c.else-byte-eq10.branch [
      | else-byte-eq10-via-then-byte-eq10+else-field_lines-gt-MAX_FIELDS w ↦ search rules
      | else-byte-eq10-via-else-byte-eq10 w ↦ few-push c.loop-reader.taken.items c.push.new.self.items c.in_ok-byte.byte c.push.ensures.items c.loop-reader.invariant.pends.2 (search rules)
    ] in
    record {
      took = took-push (g.S.Source.device c.args.reader.now).bytes (g.S.Source.device c.loop-reader.reader).bytes (g.S.Source.device c.take_byte.new.reader).bytes c.loop-reader.taken.items c.push.new.self.items c.in_ok-byte.byte
          c.push.ensures.items c.loop-reader.invariant.took c.in_ok-byte.ensures.ok;
      gives = search rules;
      bytes = search rules;
      pends = (search rules, search rules, few);
    }

pub returns-in-Err-TooManyHeaders-clause-err : goal.returns-in-Err-TooManyHeaders-clause-err
returns-in-Err-TooManyHeaders-clause-err g c = (
  request-over c.loop-reader.taken.items c.push.new.self.items c.in_ok-byte.byte c.push.ensures.items c.loop-reader.invariant.pends (search rules) (search rules),
  search rules,
)

pub returns-then-not-ends_in_target-clause-err : goal.returns-then-not-ends_in_target-clause-err
returns-then-not-ends_in_target-clause-err g c = (
  request-never c.loop-reader.taken.items c.push.new.self.items c.in_ok-byte.byte c.push.ensures.items c.loop-reader.invariant.pends (search rules) (search rules),
  search rules,
)

pub loop-reader-preserved : goal.loop-reader-preserved
loop-reader-preserved g c = record {
  took = took-push (g.S.Source.device c.args.reader.now).bytes (g.S.Source.device c.loop-reader.reader).bytes (g.S.Source.device c.take_byte.new.reader).bytes c.loop-reader.taken.items c.push.new.self.items c.in_ok-byte.byte
      c.push.ensures.items c.loop-reader.invariant.took c.in_ok-byte.ensures.ok;
  gives = search rules;
  bytes = search rules;
  pends = request-goes_on c.loop-reader.taken.items c.push.new.self.items c.in_ok-byte.byte c.push.ensures.items c.loop-reader.invariant.pends (search rules) (search rules);
}
