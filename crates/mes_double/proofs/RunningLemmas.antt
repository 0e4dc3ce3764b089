-- Lemmas about the loop of `run_world`: the world after the moves made so far.
use Rattle.std.proofs.Common.{Ok, Err, ◌≡◌, ℕ, zero, suc, length, get_or, ◌+◌, ◌≤◌, ◌<◌, Bool, true, false, if◌then◌else◌, List, [], ◌∷◌, ◌++◌, take, slice_get, Option, Some, None, refl, sym, ap, subst, ◌∙◌, arith}
use Rattle.std.proofs.lemmas.List.{take_more}
use Rattle.mes_model.specs.Id.{Id}
use Rattle.mes_msg.specs.Event.{Event}
use Rattle.mes_msg.specs.Call.{Call}
use Rattle.mes_session_state.specs.declared.refusal.Refusal.{Refusal}
use Rattle.mes_double_master.specs.Masters.{MasterAnswer}
use Rattle.mes_double_master.specs.Sending.{Sends, offers_sent, rescind_sent, update_sent, resend_sent}
use Rattle.mes_double.specs.declared.moves.Move.{Move}
use Rattle.mes_double.specs.declared.moves.Move.TheVariants as moves
use Rattle.mes_double.specs.declared.sent.Sent.{Sent}
use Rattle.mes_double.specs.Worlds.{WorldState, new_world, sending, hearing, wishing, Wishes, is_done, answer_to, answering, arriving, resubscribing, subscribe_answer, Happens}
use Rattle.mes_double.specs.Courses.{Course, begun, heard_by, arrived_by, IsCourse}
use Rattle.mes_double.proofs.OneLemmas.{leads-more}

-- ---- a move is counted as skipped at most once

few-sent : (w : WorldState) (sends : Sends) → (sending w sends).skipped ≤ w.skipped + 1
few-sent w (Ok sent) = omega arith
few-sent w (Err why) = omega arith

few-heard : (w : WorldState) (events : List Event) → (hearing w events).skipped ≤ w.skipped + 1
few-heard w [] = omega arith
few-heard w (e ∷ events) = omega arith

few-wished : (w later : WorldState) (call : Call) (s : Option (List ℕ)) → Wishes w call s later → later.skipped ≤ w.skipped + 1
few-wished w later call None h = (let e : later.skipped ≡ w.skipped + 1 = ap (λ (x : WorldState). x.skipped) h in omega arith)
few-wished w later call (Some stream) h = by h.0 h.2
  where
    by : (o : Option Refusal) → later ≡ wishing w call stream o → later.skipped ≤ w.skipped + 1
    by None e = (let f : later.skipped ≡ w.skipped = ap (λ (x : WorldState). x.skipped) e in omega arith)
    by (Some why) e = (let f : later.skipped ≡ w.skipped + 1 = ap (λ (x : WorldState). x.skipped) e in omega arith)

few-if : (b : Bool) (w u v : WorldState) → u.skipped ≤ w.skipped + 1 → v.skipped ≤ w.skipped + 1 → (if b then u else v).skipped ≤ w.skipped + 1
few-if true w u v f g = f
few-if false w u v f g = g

few-answered : (w : WorldState) (a : MasterAnswer) → (answering w a).skipped ≤ w.skipped + 1
few-answered w a = few-if (is_done a.status) w _ _ (omega arith) (omega arith)

few-arrived : (w : WorldState) (o : Option Sent) → (arriving w o).skipped ≤ w.skipped + 1
few-arrived w None = omega arith
few-arrived w (Some p) = few-answered w (answer_to w p)

few-opened : (w : WorldState) (a : MasterAnswer) → (resubscribing w a).skipped ≤ w.skipped + 1
few-opened w a = few-if (is_done a.status) w _ _ (omega arith) (omega arith)

pub few : (w later : WorldState) (move : Move) → Happens w move later → later.skipped ≤ w.skipped + 1
few w later (moves.Offer list) h = subst (λ (x : WorldState). x.skipped ≤ w.skipped + 1) (sym h) (few-sent w (offers_sent w.master list))
few w later (moves.Rescind name) h = subst (λ (x : WorldState). x.skipped ≤ w.skipped + 1) (sym h) (few-sent w (rescind_sent w.master name))
few w later (moves.Update status) h = subst (λ (x : WorldState). x.skipped ≤ w.skipped + 1) (sym h) (few-sent w (update_sent w.master status))
few w later (moves.Resend index) h = subst (λ (x : WorldState). x.skipped ≤ w.skipped + 1) (sym h) (few-sent w (resend_sent w.master index))
few w later moves.Hear h = subst (λ (x : WorldState). x.skipped ≤ w.skipped + 1) (sym h) (few-heard w w.waiting)
few w later (moves.Wish call) h = few-wished w later call w.master.stream h
few w later (moves.Arrive index) h = subst (λ (x : WorldState). x.skipped ≤ w.skipped + 1) (sym h) (few-arrived w (slice_get w.sent index))
few w later moves.Resubscribe h = subst (λ (x : WorldState). x.skipped ≤ w.skipped + 1) (sym h) (few-opened w (subscribe_answer w))

-- ---- `MovesSoFar`: the loop's invariant

pub record MovesSoFar (framework : Id) (ids : List (List ℕ)) (made : List Move) (count : ℕ) (world : WorldState) : Type 0 where
  pub course : Course
  pub leads : IsCourse framework ids made course
  pub is : course.world ≡ world
  pub skipped : world.skipped ≤ count

pub so-far-begun : (framework : Id) (ids : List (List ℕ)) (world : WorldState) → world ≡ new_world framework ids → MovesSoFar framework ids [] 0 world
so-far-begun framework ids world is = record {
  course = begun framework ids;
  leads = refl;
  is = sym is;
  skipped = (let e : world.skipped ≡ 0 = ap (λ (w : WorldState). w.skipped) is in omega arith);
}

pub so-far-more : (framework : Id) (ids : List (List ℕ)) (made : List Move) (count : ℕ) (world later : WorldState) (move : Move) → MovesSoFar framework ids made count world
    → Happens world move later → MovesSoFar framework ids (made ++ move ∷ []) (count + 1) later
so-far-more framework ids made count world later move s h =
    let happens : Happens s.course.world move later = subst (λ (w : WorldState). Happens w move later) (sym s.is) h in
    let next : Course = record { world = later; heard = s.course.heard ++ heard_by s.course.world move; arrivals = s.course.arrivals ++ arrived_by s.course.world move } in
    record {
      course = next;
      leads = leads-more (begun framework ids) s.course next made move s.leads (record { world = happens; heard = refl; arrivals = refl });
      is = refl;
      skipped = omega (arith, few world later move h, s.skipped);
    }

-- ---- `MovesSoFar` after one more move, and at the end of the list

take-past : (list : List Move) (n : ℕ) → length list ≤ n → take n list ≡ list
take-past [] zero past = refl
take-past [] (suc n) past = refl
take-past (move ∷ list) zero past = absurd (omega (arith, past))
take-past (move ∷ list) (suc n) past = ap (λ (l : List Move). move ∷ l) (take-past list n (omega (arith, past)))

module _ (framework : Id) (ids : List (List ℕ)) (list : List Move) (index : ℕ) (world : WorldState) (s : MovesSoFar framework ids (take index list) index world) where
  pub so-far-next : (move : Move) (later : WorldState) → index < length list → move ≡ get_or list index move → Happens world move later
      → MovesSoFar framework ids (take (index + 1) list) (index + 1) later
  so-far-next move later within is h =
      subst (λ (l : List Move). MovesSoFar framework ids l (index + 1) later) (sym (take_more list index move within ∙ ap (λ (z : Move). take index list ++ z ∷ []) (sym is)))
      (so-far-more framework ids (take index list) index world later move s h)

  pub so-far-whole : length list ≤ index → (c : Course) × IsCourse framework ids list c × (c.world ≡ world)
  so-far-whole past = (s.course, subst (λ (l : List Move). IsCourse framework ids l s.course) (take-past list index past) s.leads, s.is)

  pub so-far-room : index < length list → length list ≤ 18446744073709551615 → world.skipped < 18446744073709551615
  so-far-room within most = omega (arith, s.skipped, within, most)
