use Rattle.std.proofs.Common.{refl, ◌+◌, ◌≤◌, length, List, ℕ, ap, subst, arith}
use Rattle.mes_double_http.specs.Pages.{BeginsNoPage, IsFoundPage}
use Rattle.mes_double_http.proofs.PageLemmas.{cut-page, fault-there, whole-page}
use Rattle.mes_double_http.proofs.request_reader.RequestReader.take_page.Goals as goal

pub returns-in-Ok-None : goal.returns-in-Ok-None
returns-in-Ok-None c =
    let none = rw c.in-Ok-None.field-0-is at c.in-Ok-None.ensures in
    (refl, subst BeginsNoPage c.left-left.ensures none)

pub returns-then-left-found : goal.returns-then-left-found
returns-then-left-found c =
    let found = rw c.in-Ok-Some.field-0-is at c.in-Ok-Some.ensures in
    (refl, cut-page c.args.self.now c.in-Ok-Some.found (subst (λ (b : List ℕ). IsFoundPage b c.in-Ok-Some.found) c.left-left.ensures found) (omega (arith, c.if-left-found.true, ap length c.left-left.ensures)))

pub returns-in-Ok : goal.returns-in-Ok
returns-in-Ok c =
    let found = rw c.in-Ok-Some.field-0-is at c.in-Ok-Some.ensures in
    let is = subst (λ (b : List ℕ). IsFoundPage b c.in-Ok-Some.found) c.left-left.ensures found in
    let room : c.in-Ok-Some.found.size + c.in-Ok-Some.found.asked.length ≤ length c.args.self.now = omega (arith, c.if-left-found.false, ap length c.left-left.ensures, is.4) in
    whole-page c.args.self.now c.take_body.new.self c.in-Ok.body.items c.in-Ok-Some.found c.request.result is room c.in-Ok.ensures.body c.in-Ok.ensures.ok c.request.ensures.resource c.request.ensures.body

pub returns-in-Err-take_body : goal.returns-in-Err-take_body
returns-in-Err-take_body c =
    let found = rw c.in-Ok-Some.field-0-is at c.in-Ok-Some.ensures in
    let is = subst (λ (b : List ℕ). IsFoundPage b c.in-Ok-Some.found) c.left-left.ensures found in
    let room : c.in-Ok-Some.found.size + c.in-Ok-Some.found.asked.length ≤ length c.args.self.now = omega (arith, c.if-left-found.false, ap length c.left-left.ensures, is.4) in
    (c.in-Err-take_body.ensures.err.0, fault-there c.args.self.now c.in-Ok-Some.found is room c.in-Err-take_body.ensures.err.1)
