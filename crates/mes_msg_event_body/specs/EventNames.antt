-- The types of events (scheduler.proto, `Event.Type`).
use Rattle.std.specs.Prelude.{◌≡◌, ℕ, false, List, [], ◌∷◌, codes}
use Rattle.mes_model_schema.specs.Fields.{is_in}

-- the eight known types of events
abbrev pub event_names : List (List ℕ)
event_names =
    codes "SUBSCRIBED" ∷ codes "OFFERS" ∷ codes "RESCIND" ∷ codes "UPDATE" ∷ codes "MESSAGE" ∷ codes "FAILURE" ∷ codes "ERROR" ∷ codes "HEARTBEAT" ∷ []

-- the name is not one of the eight known types of events
abbrev pub IsOther : List ℕ → Type 0
IsOther name = is_in name event_names ≡ false
