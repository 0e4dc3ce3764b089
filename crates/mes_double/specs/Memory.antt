-- The moves in which an allocation may fail.
use Rattle.std.specs.Prelude.{◌≡◌, ℕ, true, List, [], ◌∷◌, take, slice_get, Option, Some, None, IsSome, IsOk}
use Rattle.mes_model.specs.Id.{Id}
use Rattle.mes_msg.specs.Event.{Event}
use Rattle.mes_msg.specs.Call.{Call}
use Rattle.mes_session_state.specs.Refusals.{Answers}
use Rattle.mes_session.specs.History.{NeedsMemory}
use Rattle.mes_double_master.specs.Sending.{offers_sent, rescind_sent, resend_sent}
use Rattle.mes_double.specs.declared.moves.Move.{Move}
use Rattle.mes_double.specs.declared.moves.Move.TheVariants as moves
use Rattle.mes_double.specs.declared.sent.Sent.{Sent}
use Rattle.mes_double.specs.Worlds.{WorldState, is_done, answer_to}
use Rattle.mes_double.specs.Courses.{Course, IsCourse}

-- there is a queued event, and the session may allocate when it receives the first one
abbrev pub HearingWants : List Event → Type 0
HearingWants [] = ⊥
HearingWants (event ∷ events) = NeedsMemory event

-- a stream is current, and the session allows the call
abbrev pub WishingWants : WorldState → Call → Option (List ℕ) → Type 0
WishingWants w call None = ⊥
WishingWants w call (Some stream) = Answers w.session call None

-- the call was sent, and would be carried out
abbrev pub ArrivingWants : WorldState → Option Sent → Type 0
ArrivingWants w None = ⊥
ArrivingWants w (Some p) = is_done (answer_to w p).status ≡ true

-- the move would be made; or is an update on a stream or a SUBSCRIBE, which may allocate and fail
abbrev pub MayWant : WorldState → Move → Type 0
MayWant w (moves.Offer offers) = IsOk (offers_sent w.master offers)
MayWant w (moves.Rescind name) = IsOk (rescind_sent w.master name)
MayWant w (moves.Update status) = IsSome w.master.stream
MayWant w (moves.Resend index) = IsOk (resend_sent w.master index)
MayWant w moves.Hear = HearingWants w.waiting
MayWant w (moves.Wish call) = WishingWants w call w.master.stream
MayWant w (moves.Arrive index) = ArrivingWants w (slice_get w.sent index)
MayWant w moves.Resubscribe = Unit {0}

-- an allocation may fail in one of the moves, in the world that the moves before it lead to
pub record WantsMemory (framework : Id) (ids : List (List ℕ)) (list : List Move) : Type 0 where
  pub index : ℕ
  pub move : Move
  pub is : slice_get list index ≡ Some move
  pub course : Course
  pub leads : IsCourse framework ids (take index list) course
  pub wants : MayWant course.world move
