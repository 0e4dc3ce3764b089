-- What becomes of an event from outside: it waits, unless the test master takes it at once.
use Rattle.std.specs.Prelude.{◌≡◌, ◌⊎◌, ℕ, Bool, true, false, if◌then◌else◌, List, [], ◌∷◌, codes}
use Rattle.std.specs.Str.{bytes_eq}
use Rattle.mes_msg.specs.Event.{Event}
use Rattle.mes_msg.specs.Event.TheVariants.{Offers, Other, Subscribed}
use Rattle.mes_double_live.specs.Bodies.{Obeys}
use Rattle.mes_double_live.specs.Lives.{LiveState, Pushes, with_last}
use Rattle.mes_double_live.specs.Steps.{Step, Admits, Refuses, overtaken_by}
use Rattle.mes_double_live.specs.Steps.Step.{waits}

abbrev pub is_busy : Event → Bool
is_busy (Other name) = bytes_eq name (codes "BUSY")
is_busy _ = false

-- an event other than BUSY waits first
abbrev pub waits_first : Event → List Step
waits_first event = if is_busy event then [] else waits event ∷ []

-- any event but SUBSCRIBED, OFFERS and BUSY waits first
abbrev pub arriving : Event → List Step
arriving (Subscribed body) = []
arriving (Offers offers) = []
arriving event = waits_first event

-- ---- what becomes of the first event that waits

-- the event was made known to the test master, and is not sent yet
pub record Admitted (event : Event) (old new : LiveState) : Type 0 where
  pub master : Admits event old.master new.master
  pub tasks : new.cluster.tasks ≡ overtaken_by event old.cluster.tasks
  pub body : new.out ≡ old.out
  pub waiting : new.waiting ≡ old.waiting

-- the event was made known to the test master, or the test master refuses it and nothing changed
abbrev pub AdmitsIf : Bool → Event → LiveState → LiveState → Type 0
AdmitsIf true event old new = Admitted event old new
AdmitsIf false event old new = Refuses event old.master × (new ≡ old)

-- what the event demands of the stream by its name was done
pub record Obeyed (event : Event) (old new : LiveState) : Type 0 where
  pub name : List ℕ
  pub is : event ≡ Other name
  pub done : Obeys name old.out new.out true
  pub rest : new ≡ record old { out = new.out }

-- the event was sent, or what it demands was done
abbrev pub Delivers : Event → LiveState → LiveState → Type 0
Delivers event old new = Pushes event old new ⊎ Obeyed event old new

-- ---- an event that arrives

-- an event that waits first joined those that wait, and nothing else changed; or only the stock and the
-- number of busy calls may have changed
abbrev pub WaitsAlone : List Step → LiveState → LiveState → Type 0
WaitsAlone (waits event ∷ []) old new = new ≡ with_last event old
WaitsAlone _ old new = new ≡ record old { cluster = new.cluster; busy = new.busy }
