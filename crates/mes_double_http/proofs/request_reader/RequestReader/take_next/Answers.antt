use Rattle.std.proofs.Common.{rules, refl, ◌<◌, ◌≤◌, length, drop, inr, ap, arith, length-drop}
use Rattle.mes_double_http.proofs.ReceivedLemmas.{refused-first, cut-call, call-there, whole-call}
use Rattle.mes_double_http.proofs.request_reader.RequestReader.take_next.Goals as goal

pub returns-in-Err : goal.returns-in-Err
returns-in-Err c = (refl, refused-first c.in-Err.fault c.args.self.now (search rules))

pub returns-then-left-found : goal.returns-then-left-found
returns-then-left-found c =
    let short : length (drop c.in-Ok-Some.found.size c.args.self.now) < c.in-Ok-Some.found.announced.length =
    omega (arith, c.if-left-found.true, ap length c.left-left.ensures, length-drop c.in-Ok-Some.found.size c.args.self.now) in
    (refl, inr (cut-call c.args.self.now c.in-Ok-Some.found (search rules) short))

pub returns-in-Err-take_body : goal.returns-in-Err-take_body
returns-in-Err-take_body c =
    let room : c.in-Ok-Some.found.announced.length ≤ length (drop c.in-Ok-Some.found.size c.args.self.now) =
    omega (arith, c.if-left-found.false, ap length c.left-left.ensures, length-drop c.in-Ok-Some.found.size c.args.self.now) in
    (c.in-Err-take_body.ensures.err.0, call-there c.args.self.now c.in-Ok-Some.found (search rules) room)

pub returns : goal.returns
returns c =
    let room : c.in-Ok-Some.found.announced.length ≤ length (drop c.in-Ok-Some.found.size c.args.self.now) =
    omega (arith, c.if-left-found.false, ap length c.left-left.ensures, length-drop c.in-Ok-Some.found.size c.args.self.now) in
    whole-call c.args.self.now c.in-Ok-Some.found c.in-Ok.body.items c.take_body.new.self (search rules) room c.in-Ok.ensures.body c.in-Ok.ensures.ok
