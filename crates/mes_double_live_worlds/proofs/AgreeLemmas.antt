-- Once nothing is under way, the session has the outstanding offers.
use Rattle.std.proofs.Common.{◌≡◌, ◌∙◌, ℕ, suc, ◌+◌, ◌<◌, ◌≤◌, ◌==◌, Bool, true, false, ◌||◌, cond, filter, if◌then◌else◌, length, map, List, [], ◌∷◌, ◌++◌, Option, Some, None, refl, sym, ap, subst, arith}
use Rattle.std.specs.List.{list_any}
use Rattle.std.specs.Prelude.{is_some}
use Rattle.std.proofs.lemmas.List.{append-nil}
use Rattle.mes_model.specs.Id.{Id}
use Rattle.mes_msg.specs.Event.{Event}
use Rattle.mes_session_state.specs.Held.{Held}
use Rattle.mes_double_master.specs.Masters.{MasterState}
use Rattle.mes_double.specs.declared.moves.Move.{Move}
use Rattle.mes_double.specs.declared.moves.Move.TheVariants as moves
use Rattle.mes_double.specs.declared.sent.Sent.{Sent}
use Rattle.mes_double.specs.Courses.{Arrival, Course, IsCourse}
use Rattle.mes_double.specs.Courses as course
use Rattle.mes_double.specs.Promises as promises
use Rattle.mes_double.specs.Promises.{has_arrived, not_arrived, on_the_way}
use Rattle.mes_double_live_worlds.specs.LiveWorlds.{LiveWorld}
use Rattle.mes_double_live_worlds.specs.Shows.{AllAgrees, SessionIs, Shows, carried_in, is_noted, noted}
use Rattle.mes_double_live_worlds.proofs.CourseLemmas.{course-then}
use Rattle.mes_double_live_worlds.proofs.MasterLemmas.{idle, marked, of-stream}
use Rattle.mes_double_live_worlds.proofs.SessionLemmas.{hear-follows, heard-one, unnoted}

-- ---- events that change no session are received

record Drained (c : Course) : Type 0 where
  moves : List Move
  to : Course
  leads : course.Leads c moves to
  none : to.world.waiting ≡ []
  session : to.world.session ≡ c.world.session
  master : to.world.master ≡ c.world.master
  sent : to.world.sent ≡ c.world.sent
  carried : carried_in to.arrivals ≡ carried_in c.arrivals

drained-more : (c : Course) (e : Event) (events : List Event) → c.world.waiting ≡ e ∷ events → is_noted e ≡ false → Drained (heard-one c e events) → Drained c
drained-more c e events is off later = record {
  moves = moves.Hear ∷ later.moves;
  to = later.to;
  leads = (heard-one c e events, hear-follows c e events is, later.leads);
  none = later.none;
  session = later.session ∙ unnoted c.world.session e off;
  master = later.master;
  sent = later.sent;
  carried = later.carried ∙ ap carried_in (append-nil c.arrivals);
}

drained-if : (c : Course) (e : Event) (events : List Event) (b : Bool) → is_noted e ≡ b → c.world.waiting ≡ e ∷ events → noted (e ∷ events) ≡ []
    → (noted events ≡ [] → Drained (heard-one c e events)) → Drained c
drained-if c e events true on is none later = absurd (let no_event : e ∷ noted events ≡ [] = sym (marked e events on) ∙ none in cc)
drained-if c e events false off is none later = drained-more c e events is off (later (sym (idle e events off) ∙ none))

drained : (events : List Event) (c : Course) → c.world.waiting ≡ events → noted events ≡ [] → Drained c
drained [] c is none =
    record { moves = []; to = c; leads = refl; none = is; session = refl; master = refl; sent = refl; carried = refl }
drained (e ∷ events) c is none = drained-if c e events (is_noted e) refl is none (λ more. drained events (heard-one c e events) refl more)

-- ---- calls that arrived

carried-arrived : (arrivals : List Arrival) (i : ℕ) → list_any (λ (j : ℕ). j == i) (carried_in arrivals) ≡ true → has_arrived arrivals i ≡ true
carried-arrived [] i is = absurd (cc)
carried-arrived (a ∷ arrivals) i is = by (a.status == 202) refl (carried-arrived arrivals i)
  where
    or-left : (b c : Bool) → b ≡ true → (b || c) ≡ true
    or-left b c e = ap (λ (x : Bool). x || c) e

    or-right : (b c : Bool) → c ≡ true → (b || c) ≡ true
    or-right true c e = refl
    or-right false c e = e

    either : (b c d : Bool) → (b || c) ≡ true → (c ≡ true → d ≡ true) → (b || d) ≡ true
    either true c d e later = refl
    either false c d e later = later e

    by : (b : Bool) → (a.status == 202) ≡ b → (list_any (λ (j : ℕ). j == i) (carried_in arrivals) ≡ true → has_arrived arrivals i ≡ true) → has_arrived (a ∷ arrivals) i ≡ true
    by true e later =
        let front : ((a.index == i) || list_any (λ (j : ℕ). j == i) (carried_in arrivals)) ≡ true =
        sym (ap (λ (b : Bool). list_any (λ (j : ℕ). j == i) (map (λ (x : Arrival). x.index) (cond b (a ∷ filter (λ (x : Arrival). x.status == 202) arrivals) (filter (λ (x : Arrival). x.status == 202) arrivals)))) e) ∙ is in
        either (a.index == i) _ _ front later
    by false e later =
        let rest : list_any (λ (j : ℕ). j == i) (carried_in arrivals) ≡ true =
        sym (ap (λ (b : Bool). list_any (λ (j : ℕ). j == i) (map (λ (x : Arrival). x.index) (cond b (a ∷ filter (λ (x : Arrival). x.status == 202) arrivals) (filter (λ (x : Arrival). x.status == 202) arrivals)))) e) ∙ is in
        or-right (a.index == i) (has_arrived arrivals i) (later rest)

none-on-the-way : (arrivals : List Arrival) (at : ℕ) (sent : List Sent) → ((i : ℕ) → at ≤ i → i < at + length sent → has_arrived arrivals i ≡ true) → on_the_way arrivals at sent ≡ []
none-on-the-way arrivals at [] all = refl
none-on-the-way arrivals at (p ∷ sent) all =
    ap (λ (b : Bool). if b then on_the_way arrivals (suc at) sent else p ∷ on_the_way arrivals (suc at) sent) (all at (omega arith) (omega arith))
    ∙ none-on-the-way arrivals (suc at) sent (λ i from below. all i (omega (arith, from)) (omega (arith, below)))

-- ---- both agree

pub agrees-shown : (framework : Id) (ids : List (List ℕ)) → ((list : List Move) (c : Course) → IsCourse framework ids list c → promises.AllAgrees c)
    → (list : List Move) (c : Course) (w : LiveWorld) → IsCourse framework ids list c → Shows c w → AllAgrees w
agrees-shown framework ids law list c w is shows reads on waiting arrived =
    let none : noted c.world.waiting ≡ [] = sym (shows.waiting reads) ∙ waiting in
    let d : Drained c = drained c.world.waiting c refl none in
    let session : w.session ≡ c.world.session = subst (λ (b : Bool). SessionIs b w.session c.world.session) reads shows.session in
    let same : w.live.master ≡ c.world.master = of-stream c.world.master w.live.master shows.master on in
    let (stream, at) = some-of w.live.master.stream on in
    let sent : d.to.world.sent ≡ w.sent = d.sent ∙ sym shows.sent in
    let carried : carried_in d.to.arrivals ≡ w.carried = d.carried ∙ sym shows.carried in
    let way : not_arrived d.to ≡ [] =
    none-on-the-way d.to.arrivals 0 d.to.world.sent
    (λ i from below.
    carried-arrived d.to.arrivals i
    (ap (λ (l : List ℕ). list_any (λ (j : ℕ). j == i) l) carried ∙ arrived i (subst (λ (l : List Sent). i < length l) sent (let within : i < length d.to.world.sent = omega (arith, below) in within)))) in
    let agree = law (list ++ d.moves) d.to (course-then _ c d.to list d.moves is d.leads) stream (ap (λ (m : MasterState). m.stream) (d.master ∙ sym same) ∙ at) d.none way in
    ap (λ (s : Held). s.hand) session ∙ sym (ap (λ (s : Held). s.hand) d.session) ∙ agree ∙ ap (λ (m : MasterState). m.outstanding) (d.master ∙ sym same)
  where
    some-of : (s : Option (List ℕ)) → is_some s ≡ true → (id : List ℕ) × (s ≡ Some id)
    some-of None e = absurd (cc)
    some-of (Some id) e = (id, refl)
