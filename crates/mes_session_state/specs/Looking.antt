-- What the results of the searches in offers, identifiers and tasks mean.
use Rattle.std.specs.Prelude.{◌≡◌, ℕ, Bool, true, false, List, take, slice_get, Some, is_none}
use Rattle.std.specs.List.{list_any}
use Rattle.mes_model.specs.Id.{Id}
use Rattle.mes_model.specs.Offer.{Offer}
use Rattle.std.specs.Str.{bytes_eq}
use Rattle.mes_model.specs.TaskInfo.{TaskInfo}
use Rattle.mes_session_state.specs.Held.{offer_in}

-- the first element that passes the test is at index i
abbrev pub IsFirstAt : {X : Type 0} → (X → Bool) → List X → ℕ → Type 0
IsFirstAt {X = X} test xs i = (x : X) × (slice_get xs i ≡ Some x) × (test x ≡ true) × (list_any test (take i xs) ≡ false)

-- no outstanding offer has the identifier d
abbrev pub is_missing : List Offer → Id → Bool
is_missing hand d = is_none (offer_in hand d.value)

-- each of the identifiers is that of an outstanding offer
abbrev pub AreOutstanding : List Offer → List Id → Type 0
AreOutstanding hand ids = list_any (is_missing hand) ids ≡ false

-- the task has the identifier
abbrev pub is_task : Id → TaskInfo → Bool
is_task id t = bytes_eq id.value t.task_id.value
