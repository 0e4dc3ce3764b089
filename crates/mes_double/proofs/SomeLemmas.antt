-- Each list of moves has a course.
use Rattle.std.proofs.Common.{ℕ, ◌++◌, List, [], ◌∷◌, Option, Some, None, refl}
use Rattle.mes_model.specs.Id.{Id}
use Rattle.mes_msg.specs.Call.{Call}
use Rattle.mes_double.specs.declared.moves.Move.{Move}
use Rattle.mes_double.specs.declared.moves.Move.TheVariants as moves
use Rattle.mes_double.specs.Worlds.{WorldState, wishing, Wishes, Happens}
use Rattle.mes_double.specs.Courses.{Course, begun, heard_by, arrived_by, Follows, Leads, IsCourse}
use Rattle.mes_double.proofs.AnswerLemmas.{some-answer}

some-wish : (w : WorldState) (call : Call) (s : Option (List ℕ)) → (later : WorldState) × Wishes w call s later
some-wish w call None = (_, refl)
some-wish w call (Some stream) = let a = some-answer w.session call in (wishing w call stream a.0, (a.0, a.1, refl))

some-world : (w : WorldState) (move : Move) → (later : WorldState) × Happens w move later
some-world w (moves.Offer list) = (_, refl)
some-world w (moves.Rescind name) = (_, refl)
some-world w (moves.Update status) = (_, refl)
some-world w (moves.Resend index) = (_, refl)
some-world w moves.Hear = (_, refl)
some-world w (moves.Wish call) = some-wish w call w.master.stream
some-world w (moves.Arrive index) = (_, refl)
some-world w moves.Resubscribe = (_, refl)

some-step : (c : Course) (move : Move) → (d : Course) × Follows c move d
some-step c move =
    let later = some-world c.world move in (
      record { world = later.0; heard = c.heard ++ heard_by c.world move; arrivals = c.arrivals ++ arrived_by c.world move },
      record { world = later.1; heard = refl; arrivals = refl },
    )

some-end : (c : Course) (list : List Move) → (d : Course) × Leads c list d
some-end c [] = (c, refl)
some-end c (move ∷ list) =
    let next = some-step c move in
    let rest = some-end next.0 list in
    (rest.0, (next.0, next.1, rest.1))

pub some-course : (framework : Id) (ids : List (List ℕ)) (list : List Move) → (c : Course) × IsCourse framework ids list c
some-course framework ids list = some-end (begun framework ids) list
