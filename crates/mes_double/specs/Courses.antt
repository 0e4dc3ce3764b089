-- The course of a list of moves: the final world, the events received, and the calls that arrived.
use Rattle.std.specs.Prelude.{◌≡◌, ℕ, List, [], ◌∷◌, ◌++◌, take, slice_get, Option, Some, None}
use Rattle.mes_model.specs.Id.{Id}
use Rattle.mes_model.specs.Offer.{Offer}
use Rattle.mes_model.specs.TaskInfo.{TaskInfo}
use Rattle.mes_msg.specs.Event.{Event}
use Rattle.mes_double.specs.declared.moves.Move.{Move}
use Rattle.mes_double.specs.declared.moves.Move.TheVariants as moves
use Rattle.mes_double.specs.declared.sent.Sent.{Sent}
use Rattle.mes_double.specs.Worlds.{WorldState, new_world, answer_to, Happens}

-- a sent call that the master received, for the first time or again, refused or not
pub record Arrival : Type 0 where
  -- the index of the call in the list of sent calls
  pub index : ℕ
  pub sent : Sent
  -- the status of the response, the offers taken, and the tasks launched
  pub status : ℕ
  pub took : List Offer
  pub ran : List TaskInfo

-- a world, and the events received and the calls that arrived so far
pub record Course : Type 0 where
  pub world : WorldState
  pub heard : List Event
  pub arrivals : List Arrival

abbrev pub begun : Id → List (List ℕ) → Course
begun framework ids = record { world = new_world framework ids; heard = []; arrivals = [] }

-- the events that the session receives in a move
abbrev pub heard_by : WorldState → Move → List Event
heard_by w moves.Hear = take 1 w.waiting
heard_by w _ = []

abbrev pub arrival : WorldState → ℕ → Option Sent → List Arrival
arrival w index None = []
arrival w index (Some p) =
    let answer = answer_to w p in
    record { index = index; sent = p; status = answer.status; took = answer.took; ran = answer.ran } ∷ []

-- the call that arrives in a move
abbrev pub arrived_by : WorldState → Move → List Arrival
arrived_by w (moves.Arrive index) = arrival w index (slice_get w.sent index)
arrived_by w _ = []

-- relates a course to the course after one more move
pub record Follows (c : Course) (move : Move) (d : Course) : Type 0 where
  pub world : Happens c.world move d.world
  pub heard : d.heard ≡ c.heard ++ heard_by c.world move
  pub arrivals : d.arrivals ≡ c.arrivals ++ arrived_by c.world move

-- relates a course to the course after these moves
abbrev pub Leads : Course → List Move → Course → Type 0
Leads c [] d = d ≡ c
Leads c (move ∷ more) d = (e : Course) × Follows c move e × Leads e more d

-- the course of these moves from a new world
abbrev pub IsCourse : Id → List (List ℕ) → List Move → Course → Type 0
IsCourse framework ids list c = Leads (begun framework ids) list c
