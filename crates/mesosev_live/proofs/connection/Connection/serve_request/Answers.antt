use Rattle.std.proofs.Common.{List, ℕ, IfOk, subst, sym}
use Rattle.mes_double_http.specs.Pages.{BeginsNoPage}
use Rattle.mesosev_live.specs.Serving.{ServesNext}
use Rattle.mesosev_live.proofs.ServedLemmas.{page_refused, page_taken, page_unread, refused_next, shown_next}
use Rattle.mesosev_live.proofs.connection.Connection.serve_request.Goals as goal

pub serve_call-requires-clause-call : goal.serve_call-requires-clause-call
serve_call-requires-clause-call g c = subst BeginsNoPage (sym c.in-Nothing.ensures.takes.0) c.in-Nothing.ensures.takes.1

pub returns-in-Nothing-clause-next : goal.returns-in-Nothing-clause-next
returns-in-Nothing-clause-next g c =
    subst (λ (left : List ℕ). IfOk c.serve_call.result (ServesNext g.D.Desk.answers g.D.Desk.shows g.D.Desk.takes (record c.args.self.now { requests = left }) c.args.desk.now c.serve_call.new.self c.serve_call.new.desk))
    c.in-Nothing.ensures.takes.0 c.serve_call.ensures.next

pub returns-in_ok-show-in-Whole-clause-next : goal.returns-in_ok-show-in-Whole-clause-next
returns-in_ok-show-in-Whole-clause-next g c =
    shown_next g.D.Desk.answers g.D.Desk.shows g.D.Desk.takes c.args.self.now c.args.desk.now c.in-Whole.request c.in-Whole.persistence c.show.new.self c.show.new.desk c.in_ok-show-in-Whole.field-0 c.requires
    (page_taken _ _ _ _ _ c.in-Whole.ensures.takes c.in_ok-show-in-Whole.ensures.requests) c.in_ok-show-in-Whole.ensures.shows

pub returns-in_ok-refuse-in-Refused-clause-next : goal.returns-in_ok-refuse-in-Refused-clause-next
returns-in_ok-refuse-in-Refused-clause-next g c =
    refused_next g.D.Desk.answers g.D.Desk.shows g.D.Desk.takes c.args.self.now c.args.desk.now c.refuse.new.self c.in_ok-refuse-in-Refused.field-0 _ c.in_ok-refuse-in-Refused.ensures.served c.requires
    (page_refused _ _ _ _ c.in-Refused.ensures.takes c.in_ok-refuse-in-Refused.ensures.requests) c.in_ok-refuse-in-Refused.ensures.out c.in_ok-refuse-in-Refused.ensures.phase

pub returns-in_ok-refuse-in-NoMemory-clause-next : goal.returns-in_ok-refuse-in-NoMemory-clause-next
returns-in_ok-refuse-in-NoMemory-clause-next g c =
    refused_next g.D.Desk.answers g.D.Desk.shows g.D.Desk.takes c.args.self.now c.args.desk.now c.refuse-in-NoMemory.new.self c.in_ok-refuse-in-NoMemory.field-0 _ c.in_ok-refuse-in-NoMemory.ensures.served c.requires
    (page_unread _ _ _ c.in-NoMemory.ensures.takes c.in_ok-refuse-in-NoMemory.ensures.requests) c.in_ok-refuse-in-NoMemory.ensures.out c.in_ok-refuse-in-NoMemory.ensures.phase
