-- What happens between a session and a live test master, on the course of a world.
use Rattle.std.proofs.Common.{◌≡◌, ◌∙◌, inl, inr, ℕ, Bool, true, false, if◌then◌else◌, length, List, [], ◌∷◌, ◌++◌, Option, Some, None, refl, sym, ap, subst, ◌==◌, cond, filter, map}
use Rattle.std.specs.Prelude.{slice_get}
use Rattle.std.proofs.lemmas.List.{append-nil, map-append}
use Rattle.std.proofs.lemmas.List.Elements.{filter-append}
use Rattle.mes_model.specs.Id.{Id}
use Rattle.mes_msg.specs.Event.{Event}
use Rattle.mes_double_master.specs.Masters.{MasterState, MasterAnswer, is_subscribe, handled}
use Rattle.mes_double_live.specs.Moving.{IsWhole}
use Rattle.mes_double_live.specs.Steps.{Handles}
use Rattle.mes_double.specs.declared.moves.Move.{Move}
use Rattle.mes_double.specs.declared.moves.Move.TheVariants as moves
use Rattle.mes_double.specs.declared.sent.Sent.{Sent}
use Rattle.mes_double.specs.Worlds.{WorldState, answer_to, answering, arriving, is_done, skip}
use Rattle.mes_double.specs.Courses.{Arrival, Course, Follows, IsCourse, arrival}
use Rattle.mes_double.specs.Promises.{WhatRanFits, WhatRanIsThere}
use Rattle.mes_double_live_worlds.specs.Shows.{IsOf, carried_in, noted}
use Rattle.mes_double_live_worlds.proofs.CourseLemmas.{Projects, course-one, course-then, noted-append, projects-none}
use Rattle.mes_double_live_worlds.proofs.MasterLemmas.{Answer, Stays, broke-none, handles-none, of-same, other-answer, none-is}

-- ---- calls that arrive

-- Of every course from a new world: what each arrival launched fits, and is of the offers' agent.
pub record Laws (framework : Id) (ids : List (List ℕ)) : Type 0 where
  pub fits : (list : List Move) (c : Course) → IsCourse framework ids list c → WhatRanFits c
  pub there : (list : List Move) (c : Course) → IsCourse framework ids list c → WhatRanIsThere c

-- the index, if the call was carried out
abbrev pub carried_if : Bool → ℕ → List ℕ
carried_if done index = if done then index ∷ [] else []

carried-one : (a : Arrival) (done : Bool) → (a.status == 202) ≡ done → carried_in (a ∷ []) ≡ carried_if done a.index
carried-one a true e = ap (λ (b : Bool). map (λ (x : Arrival). x.index) (cond b (a ∷ []) [])) e
carried-one a false e = ap (λ (b : Bool). map (λ (x : Arrival). x.index) (cond b (a ∷ []) [])) e

carried-append : (arrivals : List Arrival) (a : Arrival) → carried_in (arrivals ++ a ∷ []) ≡ carried_in arrivals ++ carried_if (a.status == 202) a.index
carried-append arrivals a =
    ap (map (λ (x : Arrival). x.index)) (filter-append (λ (x : Arrival). x.status == 202) arrivals (a ∷ []))
    ∙ map-append (λ (x : Arrival). x.index) (filter (λ (x : Arrival). x.status == 202) arrivals) (filter (λ (x : Arrival). x.status == 202) (a ∷ []))
    ∙ ap (λ (l : List ℕ). carried_in arrivals ++ l) (carried-one a (a.status == 202) refl)

last-there : {X : Type 0} (xs : List X) (x : X) → slice_get (xs ++ x ∷ []) (length xs) ≡ Some x
last-there [] x = refl
last-there (y ∷ ys) x = last-there ys x

arrived-world : (w : WorldState) (answer : MasterAnswer) (b : Bool) → is_done answer.status ≡ b → Answer w.master answer
    → ((answering w answer).master ≡ answer.master) × (noted (answering w answer).waiting ≡ noted w.waiting)
arrived-world w answer true e known =
    let is : answering w answer ≡ record w { master = answer.master; waiting = w.waiting ++ answer.events } =
    ap (λ (b : Bool). if b then record w { master = answer.master; waiting = w.waiting ++ answer.events } else skip w) e in (
      ap (λ (x : WorldState). x.master) is,
      ap (λ (x : WorldState). noted x.waiting) is ∙ noted-append w.waiting answer.events ∙ ap (λ (l : List Event). noted w.waiting ++ l) known.events ∙ append-nil (noted w.waiting),
    )
arrived-world w answer false e known =
    let is : answering w answer ≡ skip w = ap (λ (b : Bool). if b then record w { master = answer.master; waiting = w.waiting ++ answer.events } else skip w) e in
    (ap (λ (x : WorldState). x.master) is ∙ sym (known.undone e), ap (λ (x : WorldState). noted x.waiting) is)

kept-world : {X : Type 0} (get : WorldState → X) (w : WorldState) (answer : MasterAnswer) (b : Bool)
    → get (record w { master = answer.master; waiting = w.waiting ++ answer.events }) ≡ get w → get (skip w) ≡ get w
    → get (if b then record w { master = answer.master; waiting = w.waiting ++ answer.events } else skip w) ≡ get w
kept-world get w answer true e f = e
kept-world get w answer false e f = f

module _ (framework : Id) (ids : List (List ℕ)) (laws : Laws framework ids) (c : Course) (list : List Move) (reached : IsCourse framework ids list c) where
  -- the call arrives in the world
  arrive-projects : (index : ℕ) (p : Sent) (new : MasterState) → slice_get c.world.sent index ≡ Some p → is_subscribe p.call ≡ false → Handles p.call (Some p.stream) c.world.master new
      → Projects c [] (carried_if ((answer_to c.world p).status == 202) index) new
  arrive-projects index p new at other by =
      let answer = answer_to c.world p in
      let a : Arrival = record { index = index; sent = p; status = answer.status; took = answer.took; ran = answer.ran } in
      let d : Course = record { world = answering c.world answer; heard = c.heard ++ []; arrivals = c.arrivals ++ a ∷ [] } in
      let follows : Follows c (moves.Arrive index) d = record {
        world = sym (ap (arriving c.world) at);
        heard = refl;
        arrivals = sym (ap (λ (x : Option Sent). c.arrivals ++ arrival c.world index x) at);
      } in
      let after : IsCourse framework ids (list ++ moves.Arrive index ∷ []) d = course-then _ c d list (moves.Arrive index ∷ []) reached (course-one c d (moves.Arrive index) follows) in
      let whole : IsWhole c.world.master p.call (Some p.stream) = record {
        fits = laws.fits _ d after (length c.arrivals) a (last-there c.arrivals a);
        there = laws.there _ d after (length c.arrivals) a (last-there c.arrivals a);
      } in
      let known : Answer c.world.master answer = other-answer c.world.master p.call (Some p.stream) other in
      let world = arrived-world c.world answer (is_done answer.status) refl known in
      record {
        moves = moves.Arrive index ∷ [];
        to = d;
        leads = course-one c d (moves.Arrive index) follows;
        master = inl (by.whole whole ∙ sym world.0);
        session = kept-world (λ (x : WorldState). x.session) c.world answer (is_done answer.status) refl refl;
        waiting = world.1 ∙ sym (ap noted (append-nil c.world.waiting));
        heard = append-nil c.heard;
        sent = kept-world (λ (x : WorldState). x.sent) c.world answer (is_done answer.status) refl refl;
        carried = carried-append c.arrivals a;
        stays = λ up. subst (Stays c.world.master) (sym world.0) (known.stays (ap (λ (x : MasterState). x.down) (sym world.0) ∙ up));
      }

  -- the call arrives at the live test master; if its stream was disconnected, not in the world
  pub call-projects : (index : ℕ) (p : Sent) (old new : MasterState) → IsOf c.world.master old → slice_get c.world.sent index ≡ Some p → is_subscribe p.call ≡ false
      → Handles p.call (Some p.stream) old new → Projects c [] (carried_if ((handled old p.call (Some p.stream)).status == 202) index) new
  call-projects index p old new (inl same) at other by =
      subst (λ (m : MasterState). Projects c [] (carried_if ((handled m p.call (Some p.stream)).status == 202) index) new) (sym same)
      (arrive-projects index p new at other (subst (λ (m : MasterState). Handles p.call (Some p.stream) m new) same by))
  call-projects index p old new (inr broke) at other by =
      let none : old.stream ≡ None = ap (λ (m : MasterState). m.stream) broke ∙ broke-none c.world.master in
      let nothing : carried_if ((handled old p.call (Some p.stream)).status == 202) index ≡ [] =
      ap (λ (a : MasterAnswer). carried_if (a.status == 202) index) (none-is old p.call (Some p.stream) other none) in
      subst (λ (l : List ℕ). Projects c [] l new) (sym nothing)
      (projects-none c [] new (of-same c.world.master old new (inr broke) (handles-none old new p.call (Some p.stream) other none by)) refl)
