use Rattle.std.proofs.Common.{◌≡◌, ◌∙◌, ap, sym, subst, inl, inr, None}
use Rattle.mes_session_fit.specs.Fits.{Fits, IsFirstBreach}
use Rattle.mes_session_fit.specs.Launched.{launched}
use Rattle.mes_session_state.specs.Refusals.{ReportsFirst, IsFaultyIn, offers_named, has_two_agents, is_elsewhere}
use Rattle.mes_session_state.specs.Looking.{IsFirstAt, is_missing, AreOutstanding}
use Rattle.std.specs.List.{list_any}
use Rattle.mes_session_state.proofs.SlotLemmas.{not-none}
use Rattle.mes_session_state.proofs.RefusalLemmas.{told-twice, told-missing, told-agents, told-on_other_agent, told-exceeds, told-none}
use Rattle.mes_session_state.proofs.call_check.CallCheck.fault_of_accept.Goals as goal
use Rattle.mes_session_state.proofs.call_check.CallCheck.fault_of_accept.Goals.{then-is_duplicated-via-then-is_duplicated, then-is_duplicated-via-else-is_duplicated+then-task_is_duplicated}

pub returns-then-is_duplicated : goal.returns-then-is_duplicated
returns-then-is_duplicated g c =
    told-twice c.args.self.now (record { named = c.args.ids.now; accepted = c.args.ids.now; tasks = launched g.L.TaskGroup.tasks c.args.launches.now; acknowledged = None })
    (elim c.then-is_duplicated.branch [
      | then-is_duplicated-via-then-is_duplicated w ↦ inl (sym c.is_duplicated.ensures ∙ w.if-is_duplicated.true)
      | then-is_duplicated-via-else-is_duplicated+then-task_is_duplicated w ↦ inr (sym w.task_is_duplicated.ensures ∙ w.if-task_is_duplicated.true)
    ])

pub returns-in-Some : goal.returns-in-Some
returns-in-Some g c =
    told-missing c.args.self.now (record { named = c.args.ids.now; accepted = c.args.ids.now; tasks = launched g.L.TaskGroup.tasks c.args.launches.now; acknowledged = None })
    (sym c.is_duplicated.ensures ∙ c.if-is_duplicated.false) (sym c.task_is_duplicated.ensures ∙ c.if-task_is_duplicated.false)
    c.in-Some.index (subst (λ s. IsFirstAt (is_missing s.hand) c.args.ids.now c.in-Some.index) c.self.view_is c.in-Some.ensures.some)

pub returns-then-two_agents : goal.returns-then-two_agents
returns-then-two_agents g c =
    told-agents c.args.self.now (record { named = c.args.ids.now; accepted = c.args.ids.now; tasks = launched g.L.TaskGroup.tasks c.args.launches.now; acknowledged = None })
    (sym c.is_duplicated.ensures ∙ c.if-is_duplicated.false) (sym c.task_is_duplicated.ensures ∙ c.if-task_is_duplicated.false)
    (subst (λ s. AreOutstanding s.hand c.args.ids.now) c.self.view_is c.in_default.ensures.none)
    (ap (λ s. has_two_agents (offers_named s.hand c.args.ids.now)) (sym c.self.view_is) ∙ ap has_two_agents (sym c.new-offers.ensures) ∙ sym c.two_agents.ensures ∙ c.if-two_agents.true)

pub returns-in-Some-on_other_agent : goal.returns-in-Some-on_other_agent
returns-in-Some-on_other_agent g c =
    let tasks = launched g.L.TaskGroup.tasks c.args.launches.now in
    let named : c.new-offers.result ≡ offers_named c.args.self.now.hand c.args.ids.now = c.new-offers.ensures ∙ ap (λ s. offers_named s.hand c.args.ids.now) c.self.view_is in
    told-on_other_agent c.args.self.now (record { named = c.args.ids.now; accepted = c.args.ids.now; tasks = tasks; acknowledged = None })
    (sym c.is_duplicated.ensures ∙ c.if-is_duplicated.false) (sym c.task_is_duplicated.ensures ∙ c.if-task_is_duplicated.false)
    (subst (λ s. AreOutstanding s.hand c.args.ids.now) c.self.view_is c.in_default.ensures.none)
    (ap has_two_agents (sym named) ∙ sym c.two_agents.ensures ∙ c.if-two_agents.false)
    c.in-Some-on_other_agent.task c.in-Some-on_other_agent.ensures.some.0 c.in-Some-on_other_agent.ensures.some.1
    (subst (λ os. IsFirstAt (is_elsewhere os) tasks c.in-Some-on_other_agent.ensures.some.0) named c.in-Some-on_other_agent.ensures.some.2)

pub returns-in_err-breach : goal.returns-in_err-breach
returns-in_err-breach g c =
    let tasks = launched g.L.TaskGroup.tasks c.args.launches.now in
    let named : c.new-offers.result ≡ offers_named c.args.self.now.hand c.args.ids.now = c.new-offers.ensures ∙ ap (λ s. offers_named s.hand c.args.ids.now) c.self.view_is in
    subst (λ r. ReportsFirst (IsFaultyIn c.args.self.now (record { named = c.args.ids.now; accepted = c.args.ids.now; tasks = tasks; acknowledged = None })) r) (sym c.from_residual.ensures)
    (told-none c.args.self.now (record { named = c.args.ids.now; accepted = c.args.ids.now; tasks = tasks; acknowledged = None })
    (sym c.is_duplicated.ensures ∙ c.if-is_duplicated.false) (sym c.task_is_duplicated.ensures ∙ c.if-task_is_duplicated.false)
    (subst (λ s. AreOutstanding s.hand c.args.ids.now) c.self.view_is c.in_default.ensures.none)
    (ap has_two_agents (sym named) ∙ sym c.two_agents.ensures ∙ c.if-two_agents.false)
    (ap (λ os. list_any (is_elsewhere os) tasks) (sym named) ∙ c.in_default-on_other_agent.ensures.none)
    (subst (λ os. Fits os tasks) named c.in_err-breach.ensures.none)
    (λ k e h. not-none k (sym e)))

pub returns : goal.returns
returns g c =
    let tasks = launched g.L.TaskGroup.tasks c.args.launches.now in
    let named : c.new-offers.result ≡ offers_named c.args.self.now.hand c.args.ids.now = c.new-offers.ensures ∙ ap (λ s. offers_named s.hand c.args.ids.now) c.self.view_is in
    told-exceeds c.args.self.now (record { named = c.args.ids.now; accepted = c.args.ids.now; tasks = tasks; acknowledged = None })
    (sym c.is_duplicated.ensures ∙ c.if-is_duplicated.false) (sym c.task_is_duplicated.ensures ∙ c.if-task_is_duplicated.false)
    (subst (λ s. AreOutstanding s.hand c.args.ids.now) c.self.view_is c.in_default.ensures.none)
    (ap has_two_agents (sym named) ∙ sym c.two_agents.ensures ∙ c.if-two_agents.false)
    (ap (λ os. list_any (is_elsewhere os) tasks) (sym named) ∙ c.in_default-on_other_agent.ensures.none)
    c.in_ok-breach.breach.task c.in_ok-breach.ensures.some.0 c.in_ok-breach.breach.resource c.in_ok-breach.ensures.some.1
    (subst (λ os. IsFirstBreach os tasks c.in_ok-breach.ensures.some.0 c.in_ok-breach.breach.resource) named c.in_ok-breach.ensures.some.2)
