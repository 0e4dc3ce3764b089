-- Where an offer of the stock is: free from a time on, outstanding, used by the tasks of a launch,
-- or withdrawn.
use Rattle.std.specs.Prelude.{ℕ, ◌-◌, ◌==◌, nat_le, Bool, true, false, if◌then◌else◌, Option, Some, None}
use Rattle.mes_double_cluster.specs.declared.offer_state.OfferState.{OfferState}
use Rattle.mes_double_cluster.specs.declared.offer_state.OfferState.TheVariants.{Free, Outstanding, Used}

-- true if the offer may be made at the time `now`
abbrev pub is_due : ℕ → OfferState → Bool
is_due now (Free time) = nat_le time now
is_due now _ = false

-- the first time at which the offer may be made, if it is free
abbrev pub due_from : OfferState → Option ℕ
due_from (Free time) = Some time
due_from _ = None

abbrev pub is_made : OfferState → Bool
is_made Outstanding = true
is_made _ = false

-- after the stream ended at the time `now`: an outstanding offer is free at once
abbrev pub returned : ℕ → OfferState → OfferState
returned now Outstanding = Free now
returned now state = state

-- after a REVIVE: a free offer waits no longer
abbrev pub revived : OfferState → OfferState
revived (Free time) = Free 0
revived state = state

-- after an ACCEPT that launched `tasks` tasks; without tasks the offer is free from `time` on
abbrev pub accepted : ℕ → ℕ → ℕ → OfferState
accepted launch tasks time = if tasks == 0 then Free time else Used launch tasks

-- after a task of the launch `ended` ended at the time `now`: the last one frees the offer
abbrev pub after_task : ℕ → ℕ → OfferState → OfferState
after_task ended now (Used launch tasks) = if launch == ended then accepted launch (tasks - 1) now else Used launch tasks
after_task ended now state = state
