use Rattle.std.proofs.Common.{◌∙◌}
use Rattle.mesosev_live.proofs.ServedLemmas.{page_shown, state_shown}
use Rattle.mesosev_live.proofs.connection.Connection.show.Goals as goal

pub returns-in_ok-push_page-in-Page-clause-shows : goal.returns-in_ok-push_page-in-Page-clause-shows
returns-in_ok-push_page-in-Page-clause-shows g c =
    page_shown g.D.Desk.shows g.D.Desk.takes c.args.self.now c.args.desk.now c.args.request.now c.args.persistence c.push_page.new.self c.as_bytes.result.now c.in-Page.is
    (c.in_ok-push_page-in-Page.ensures.out, c.in_ok-push_page-in-Page.ensures.phase)

pub returns-in_ok-push_page-in-State-clause-shows : goal.returns-in_ok-push_page-in-State-clause-shows
returns-in_ok-push_page-in-State-clause-shows g c =
    state_shown g.D.Desk.shows g.D.Desk.takes c.args.self.now c.args.desk.now c.args.request.now c.args.persistence c.push_page-in-State.new.self c.as_slice.result.now c.in-State.is
    (c.as_slice.ensures.value ∙ c.in_ok-text-in-State.ensures) (c.in_ok-push_page-in-State.ensures.out, c.in_ok-push_page-in-State.ensures.phase)
