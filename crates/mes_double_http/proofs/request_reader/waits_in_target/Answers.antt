use Rattle.std.proofs.Common.{rules, arith}
use Rattle.std.proofs.lemmas.Bool.{false≢true}
use Rattle.httparse.specs.Grammar.{NeverHasRequest}
use Rattle.httparse.specs.Spans.{RequestExceeds}
use Rattle.mes_double_http.specs.declared.limits.TheConstants.{MAX_FIELDS}
use Rattle.mes_double_http.proofs.HeadLemmas.{request-lines}
use Rattle.mes_double_http.proofs.ReceivedLemmas.{start_none}
use Rattle.mes_double_http.proofs.TargetLemmas.{in_target, target_split, start_goes_on, start_fails, start_lines}
use Rattle.mes_double_http.proofs.request_reader.waits_in_target.Goals as goal

pub returns-in-Ok-Partial : goal.returns-in-Ok-Partial
returns-in-Ok-Partial c =
    let s = c.in-Some.ensures in
    let begins = rw c.in-Ok-Partial.field-0-is at c.in-Ok-Partial.ensures.unfinished in (
      λ yes. start_goes_on s.0 s.1 c.in-Some.start.now c.args.front.now s.2 s.3 s.4 (target_split c.args.front.now s.0 s.1 s.3 s.4 (c.ends_in_target.ensures.0 yes)).1 begins,
      λ ends. c.ends_in_target.ensures.1 (in_target c.args.front.now ends c.requires),
    )

pub returns-in-Ok-Complete : goal.returns-in-Ok-Complete
returns-in-Ok-Complete c =
    let s = c.in-Some.ensures in
    let found = rw c.in-Ok-Complete.field-0-is at c.in-Ok-Complete.ensures.complete in
    absurd (start_none s.0 s.1 c.in-Some.start.now c.args.front.now s.2 s.3 c.requires found.0 _ found.1.reads)

pub returns-in-Err-TooManyHeaders : goal.returns-in-Err-TooManyHeaders
returns-in-Err-TooManyHeaders c =
    let s = c.in-Some.ensures in
    let exceeds : RequestExceeds MAX_FIELDS c.in-Some.start.now = search rules in (
      λ no. absurd (false≢true no),
      λ ends. absurd (omega (arith, request-lines MAX_FIELDS c.in-Some.start.now exceeds, start_lines s.0 s.1 c.in-Some.start.now c.args.front.now s.2 s.3 s.4 ends)),
    )

pub returns-in-Err : goal.returns-in-Err
returns-in-Err c =
    let s = c.in-Some.ensures in
    let never : NeverHasRequest c.in-Some.start.now = search rules in
    (λ no. absurd (false≢true no), λ ends. absurd (start_fails s.0 s.1 c.in-Some.start.now c.args.front.now s.2 s.3 s.4 never ends))
