use Rattle.std.proofs.Common.{◌∙◌, ap, sym}
use Rattle.std.specs.Option.{option_copied}
use Rattle.mes_session_state.proofs.RefusalLemmas.{another}
use Rattle.mes_session_state.proofs.call_check.CallCheck.is_other_subscription.Goals as goal

pub returns-in-Some-Some : goal.returns-in-Some-Some
returns-in-Some-Some c =
    another c.args.self.now c.args.named.now c.in-Some-Some.known.now c.in-Some-Some.named (ap (λ s. s.framework) (sym c.self.view_is) ∙ ap option_copied c.in-Some-Some.is-0) c.in-Some-Some.is-1 c.ne.result c.ne.ensures
