-- Lemma: a name that differs from the eight known types of events is the type of another event.
use Rattle.std.proofs.Common.{◌≢◌, ℕ, List, refl, sym}
use Rattle.std.specs.Prelude.{codes}
use Rattle.mes_model_schema.specs.NameLaws.{names_differ}
use Rattle.mes_msg_event_body.specs.EventNames.{IsOther}

pub is_other : (n : List ℕ) → n ≢ codes "SUBSCRIBED" → n ≢ codes "OFFERS" → n ≢ codes "RESCIND" → n ≢ codes "UPDATE" → n ≢ codes "MESSAGE"
    → n ≢ codes "FAILURE" → n ≢ codes "ERROR" → n ≢ codes "HEARTBEAT" → IsOther n
is_other n subscribed offers rescind update message failure error heartbeat =
    rw (
      names_differ (codes "SUBSCRIBED") n (λ e. subscribed (sym e)),
      names_differ (codes "OFFERS") n (λ e. offers (sym e)),
      names_differ (codes "RESCIND") n (λ e. rescind (sym e)),
      names_differ (codes "UPDATE") n (λ e. update (sym e)),
      names_differ (codes "MESSAGE") n (λ e. message (sym e)),
      names_differ (codes "FAILURE") n (λ e. failure (sym e)),
      names_differ (codes "ERROR") n (λ e. error (sym e)),
      names_differ (codes "HEARTBEAT") n (λ e. heartbeat (sym e)),
    ) refl
