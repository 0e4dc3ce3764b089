-- What a session makes of events, and that a world's session receives the same.
use Rattle.std.proofs.Common.{◌≡◌, ◌∙◌, ℕ, Bool, true, false, not, if◌then◌else◌, filter, fold, cond, take, List, [], ◌∷◌, ◌++◌, Option, Some, None, refl, sym, ap}
use Rattle.std.specs.Prelude.{is_some}
use Rattle.std.specs.Option.{option_or, option_to_list}
use Rattle.std.specs.Str.{bytes_eq}
use Rattle.std.proofs.lemmas.List.{append-nil}
use Rattle.mes_model.specs.Offer.{Offer}
use Rattle.mes_model.specs.OwedKey.{OwedKey}
use Rattle.mes_model.specs.Owed.{owed_key_of}
use Rattle.mes_msg.specs.Event.{Event}
use Rattle.mes_msg.specs.Event.TheVariants as event
use Rattle.mes_msg.specs.declared.entry.Entry.TheVariants.{Heard}
use Rattle.mes_session_state.specs.Keeping.{put}
use Rattle.mes_session_state.specs.Held.{Held, name_of, same_key}
use Rattle.mes_session.specs.History.{acknowledges, after, offers_of, owed_by, subscribed_by, subscribes, takes_offer}
use Rattle.mes_double.specs.declared.moves.Move.{Move}
use Rattle.mes_double.specs.declared.moves.Move.TheVariants as moves
use Rattle.mes_double.specs.Worlds.{hearing}
use Rattle.mes_double.specs.Courses.{Course, Follows, heard_by}
use Rattle.mes_double.specs.Courses as course
use Rattle.mes_double_live_worlds.specs.Shows.{is_noted, noted, carried_in}
use Rattle.mes_double_live_worlds.proofs.CourseLemmas.{course-one, noted-append}
use Rattle.mes_double_live_worlds.proofs.MasterLemmas.{idle, marked}

-- ---- events that change no session

all-kept : {X : Type 0} (test : X → Bool) → ((x : X) → test x ≡ true) → (xs : List X) → filter test xs ≡ xs
all-kept test all [] = refl
all-kept test all (x ∷ xs) = ap (λ (b : Bool). cond b (x ∷ filter test xs) (filter test xs)) (all x) ∙ ap (λ (l : List _). x ∷ l) (all-kept test all xs)

unchanged : (s : Held) (e : Event) → subscribed_by (Heard e) ≡ None → subscribes (Heard e) ≡ false → ((name : List ℕ) → takes_offer name (Heard e) ≡ false) → offers_of (Heard e) ≡ []
    → owed_by (Heard e) ≡ [] → after s (Heard e) ≡ s
unchanged s e none other takes offers owes =
    let framework = ap (λ (f : Option _). option_or f s.framework) none in
    let connected = ap (λ (b : Bool). if b then true else s.connected) other in
    let hand : filter (λ (o : Offer). not (takes_offer (name_of o) (Heard e))) s.hand ≡ s.hand = all-kept _ (λ o. ap not (takes (name_of o))) s.hand in
    let owed : filter (λ (key : OwedKey). not (acknowledges key (Heard e))) s.owed ≡ s.owed = all-kept _ (λ key. refl) s.owed in
    let hands = ap (λ (l : List Offer). fold (put bytes_eq name_of) (filter (λ (o : Offer). not (takes_offer (name_of o) (Heard e))) s.hand) l) offers ∙ hand in
    let keys = ap (λ (l : List OwedKey). fold (put same_key (λ (key : OwedKey). key)) (filter (λ (key : OwedKey). not (acknowledges key (Heard e))) s.owed) l) owes ∙ owed in
    ap (λ (f : Option _). record (after s (Heard e)) { framework = f }) framework
    ∙ ap (λ (b : Bool). record (after s (Heard e)) { framework = s.framework; connected = b }) connected
    ∙ ap (λ (l : List Offer). record (after s (Heard e)) { framework = s.framework; connected = s.connected; hand = l }) hands
    ∙ ap (λ (l : List OwedKey). record s { owed = l }) keys

owes-none : (key : Option OwedKey) → is_some key ≡ false → option_to_list key ≡ []
owes-none None off = refl
owes-none (Some key) off = absurd (cc)

-- an event that is not noted changes no session
pub unnoted : (s : Held) (e : Event) → is_noted e ≡ false → after s (Heard e) ≡ s
unnoted s (event.Subscribed body) off = absurd (cc)
unnoted s (event.Offers list) off = absurd (cc)
unnoted s (event.Rescind body) off = absurd (cc)
unnoted s (event.Update body) off = unchanged s (event.Update body) refl refl (λ name. refl) refl (owes-none (owed_key_of body.status) off)
unnoted s (event.Message body) off = unchanged s (event.Message body) refl refl (λ name. refl) refl refl
unnoted s (event.Failure body) off = unchanged s (event.Failure body) refl refl (λ name. refl) refl refl
unnoted s (event.Error body) off = unchanged s (event.Error body) refl refl (λ name. refl) refl refl
unnoted s event.Heartbeat off = unchanged s event.Heartbeat refl refl (λ name. refl) refl refl
unnoted s (event.Other name) off = unchanged s (event.Other name) refl refl (λ name. refl) refl refl

-- ---- events that the world's session receives

-- moves in which only the session receives events, up to the first that is noted
pub record Hears (c : Course) (e : Event) (rest : List Event) : Type 0 where
  pub moves : List Move
  pub to : Course
  pub leads : course.Leads c moves to
  pub session : to.world.session ≡ after c.world.session (Heard e)
  pub waiting : noted to.world.waiting ≡ rest
  pub heard : noted to.heard ≡ noted c.heard ++ e ∷ []
  pub master : to.world.master ≡ c.world.master
  pub sent : to.world.sent ≡ c.world.sent
  pub carried : carried_in to.arrivals ≡ carried_in c.arrivals

abbrev pub heard-one : Course → Event → List Event → Course
heard-one c e events =
    record { world = record c.world { session = after c.world.session (Heard e); waiting = events }; heard = c.heard ++ e ∷ []; arrivals = c.arrivals ++ [] }

pub hear-follows : (c : Course) (e : Event) (events : List Event) → c.world.waiting ≡ e ∷ events → Follows c moves.Hear (heard-one c e events)
hear-follows c e events is = record {
  world = sym (ap (hearing c.world) is);
  heard = sym (ap (λ (l : List Event). c.heard ++ take 1 l) is);
  arrivals = refl;
}

first-is : (a b : Event) (xs ys : List Event) → a ∷ xs ≡ b ∷ ys → a ≡ b
first-is a b xs ys e = cc

rest-is : (a b : Event) (xs ys : List Event) → a ∷ xs ≡ b ∷ ys → xs ≡ ys
rest-is a b xs ys e = cc

-- one event that is not noted, and then the others
hears-later : (c : Course) (u e : Event) (us rest : List Event) → c.world.waiting ≡ u ∷ us → is_noted u ≡ false → Hears (heard-one c u us) e rest → Hears c e rest
hears-later c u e us rest is off later = record {
  moves = moves.Hear ∷ later.moves;
  to = later.to;
  leads = (heard-one c u us, hear-follows c u us is, later.leads);
  session = later.session ∙ ap (λ (s : Held). after s (Heard e)) (unnoted c.world.session u off);
  waiting = later.waiting;
  heard =
      later.heard
      ∙ ap (λ (l : List Event). l ++ e ∷ []) (noted-append c.heard (u ∷ []) ∙ ap (λ (l : List Event). noted c.heard ++ l) (idle u [] off) ∙ append-nil (noted c.heard));
  master = later.master;
  sent = later.sent;
  carried = later.carried ∙ ap carried_in (append-nil c.arrivals);
}

-- an event that is noted
hears-now : (c : Course) (u e : Event) (us rest : List Event) → c.world.waiting ≡ u ∷ us → is_noted u ≡ true → noted (u ∷ us) ≡ e ∷ rest → Hears c e rest
hears-now c u e us rest is on first =
    let all : u ∷ noted us ≡ e ∷ rest = sym (marked u us on) ∙ first in
    let same : u ≡ e = first-is _ _ _ _ all in
    record {
      moves = moves.Hear ∷ [];
      to = heard-one c u us;
      leads = course-one c (heard-one c u us) moves.Hear (hear-follows c u us is);
      session = ap (λ (x : Event). after c.world.session (Heard x)) same;
      waiting = rest-is _ _ _ _ all;
      heard = noted-append c.heard (u ∷ []) ∙ ap (λ (l : List Event). noted c.heard ++ l) (marked u [] on ∙ ap (λ (x : Event). x ∷ []) same);
      master = refl;
      sent = refl;
      carried = ap carried_in (append-nil c.arrivals);
    }

hears-if : (c : Course) (u e : Event) (us rest : List Event) (b : Bool) → is_noted u ≡ b → c.world.waiting ≡ u ∷ us → noted (u ∷ us) ≡ e ∷ rest
    → (noted us ≡ e ∷ rest → Hears (heard-one c u us) e rest) → Hears c e rest
hears-if c u e us rest true on is first later = hears-now c u e us rest is on first
hears-if c u e us rest false off is first later = hears-later c u e us rest is off (later (sym (idle u us off) ∙ first))

hears-by : (events : List Event) (c : Course) (e : Event) (rest : List Event) → c.world.waiting ≡ events → noted events ≡ e ∷ rest → Hears c e rest
hears-by [] c e rest is first = absurd (cc)
hears-by (u ∷ us) c e rest is first = hears-if c u e us rest (is_noted u) refl is first (λ more. hears-by us (heard-one c u us) e rest refl more)

-- the world's session receives the first event that is noted, and those before it
pub hears-noted : (c : Course) (e : Event) (rest : List Event) → noted c.world.waiting ≡ e ∷ rest → Hears c e rest
hears-noted c e rest first = hears-by c.world.waiting c e rest refl first
