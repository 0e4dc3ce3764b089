use Rattle.std.proofs.Common.{◌∙◌, sym, subst, refl, inl, [], None}
use Rattle.mes_session_state.specs.Refusals.{ReportsFirst, IsFaultyIn}
use Rattle.mes_session_state.specs.Looking.{IsFirstAt, is_missing, AreOutstanding}
use Rattle.mes_session_state.proofs.SlotLemmas.{not-none}
use Rattle.mes_session_state.proofs.RefusalLemmas.{told-twice, told-missing, told-none, fits-none}
use Rattle.mes_session_state.proofs.call_check.CallCheck.fault_of_decline.Goals as goal

pub returns-then-is_duplicated : goal.returns-then-is_duplicated
returns-then-is_duplicated c =
    told-twice c.args.self.now (record { named = c.args.ids.now; accepted = []; tasks = []; acknowledged = None }) (inl (sym c.is_duplicated.ensures ∙ c.if-is_duplicated.true))

pub returns-in_err-index : goal.returns-in_err-index
returns-in_err-index c =
    let held = c.args.self.now in
    subst (λ r. ReportsFirst (IsFaultyIn held (record { named = c.args.ids.now; accepted = []; tasks = []; acknowledged = None })) r) (sym c.from_residual.ensures)
    (told-none held (record { named = c.args.ids.now; accepted = []; tasks = []; acknowledged = None }) (sym c.is_duplicated.ensures ∙ c.if-is_duplicated.false) refl
    (subst (λ s. AreOutstanding s.hand c.args.ids.now) c.self.view_is c.in_err-index.ensures.none) refl refl (fits-none []) (λ k e h. not-none k (sym e)))

pub returns : goal.returns
returns c =
    told-missing c.args.self.now (record { named = c.args.ids.now; accepted = []; tasks = []; acknowledged = None }) (sym c.is_duplicated.ensures ∙ c.if-is_duplicated.false) refl
    c.in_ok-index.index (subst (λ s. IsFirstAt (is_missing s.hand) c.args.ids.now c.in_ok-index.index) c.self.view_is c.in_ok-index.ensures.some)
