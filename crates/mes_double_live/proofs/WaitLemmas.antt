-- How events from outside wait, and are taken in order.
use Rattle.std.proofs.Common.{◌≡◌, ◌∙◌, inl, inr, ℕ, Bool, true, false, List, [], ◌∷◌, ◌++◌, Result, sym, ap, subst}
use Rattle.std.proofs.lemmas.List.{append-nil, append_assoc}
use Rattle.std.proofs.lemmas.Result.{on_ok_weaker}
use Rattle.std.specs.List.{flat_map}
use Rattle.std.specs.Result.{OnOk}
use Rattle.mes_msg.specs.Event.{Event}
use Rattle.mes_msg.specs.Event.TheVariants.{Other}
use Rattle.mes_double_live.specs.Arriving.{Admitted, AdmitsIf, Delivers, Obeyed}
use Rattle.mes_double_live.specs.Bodies.{BodyState, Obeys, Sends}
use Rattle.mes_double_live.specs.Lives.{LiveState, Pushes, record_of, with_first, with_last}
use Rattle.mes_double_live.specs.Steps.{Step, StepsWaiting, LeadsWaiting, Leads, Admits, BeginsWith, StepsTo, IsDelivering, arrived_by, taken_by}
use Rattle.mes_double_live.specs.Steps.Step.{handles, breaks, sends, resends, relays, reports, beats, obeys, waits, drops, releases, goes, clears, notes, takes, launches, acknowledges, kills}
use Rattle.mes_double_live.proofs.StepLemmas.{body-steps, leads-one, leads-then}

-- the first event that waited was admitted, and was sent
relayed : (event : Event) (a b c : LiveState) → Admitted event a b → Pushes event b c → StepsTo IsDelivering (with_first event a) c
relayed event a b c is pushes =
    let master : Admits event a.master c.master = subst (Admits event a.master) (sym (ap (λ (x : LiveState). x.master) pushes.rest)) is.master in
    let body : Sends b.time a.out (record_of event) c.out = subst (λ (o : BodyState). Sends b.time o (record_of event) c.out) is.body pushes.body in
    let waiting : event ∷ a.waiting ≡ event ∷ c.waiting = ap (λ (l : List Event). event ∷ l) (sym (ap (λ (x : LiveState). x.waiting) pushes.rest ∙ is.waiting)) in
    body-steps (relays b.time event) (with_first event a) c tt master body (ap (λ (x : LiveState). x.cluster.tasks) pushes.rest ∙ is.tasks) waiting

-- what the first event that waited demands was done
obeyed-by : (name : List ℕ) (a b c : LiveState) → Admitted (Other name) a b → Obeys name b.out c.out true → c ≡ record b { out = c.out }
    → StepsTo IsDelivering (with_first (Other name) a) c
obeyed-by name a b c is done rest =
    let body : Obeys name a.out c.out true = subst (λ (o : BodyState). Obeys name o c.out true) is.body done in
    let waiting : Other name ∷ a.waiting ≡ Other name ∷ c.waiting = ap (λ (l : List Event). Other name ∷ l) (sym (ap (λ (x : LiveState). x.waiting) rest ∙ is.waiting)) in
    body-steps (obeys name) (with_first (Other name) a) c tt (ap (λ (x : LiveState). x.master) rest ∙ is.master) body (ap (λ (x : LiveState). x.cluster.tasks) rest ∙ is.tasks) waiting

obeyed : (event : Event) (a b c : LiveState) → Admitted event a b → Obeyed event b c → StepsTo IsDelivering (with_first event a) c
obeyed event a b c is by =
    subst (λ (e : Event). StepsTo IsDelivering (with_first e a) c) (sym by.is)
    (obeyed-by by.name a b c (subst (λ (e : Event). Admitted e a b) by.is is) by.done by.rest)

delivered : (event : Event) (a b c : LiveState) → Admitted event a b → Delivers event b c → StepsTo IsDelivering (with_first event a) c
delivered event a b c is by = elim by [
  | inl pushes ↦ relayed event a b c is pushes
  | inr done ↦ obeyed event a b c is done
]

-- the first event that waited is admitted, and then sent by a last call if it succeeds
pub admitted-last : {T E : Type 0} (result : Result T E) (event : Event) (admits : Bool) (a b c : LiveState) → admits ≡ true → AdmitsIf admits event a b → OnOk result (Delivers event b c)
    → OnOk result (StepsTo IsDelivering (with_first event a) c)
admitted-last result event true a b c on is last = on_ok_weaker result (delivered event a b c is) last
admitted-last result event false a b c on is last = absurd (cc)

-- the first event that waited is dropped
pub dropped-steps : (event : Event) (admits : Bool) (a b : LiveState) → admits ≡ false → AdmitsIf admits event a b → StepsTo IsDelivering (with_first event a) b
dropped-steps event true a b off is = absurd (cc)
dropped-steps event false a b off is =
    let e = is.1 in
    body-steps (drops event) (with_first event a) b tt (is.0, ap (λ (x : LiveState). x.master) e) (ap (λ (x : LiveState). x.out) e) (ap (λ (x : LiveState). x.cluster.tasks) e)
    (ap (λ (x : LiveState). event ∷ x.waiting) (sym e))

-- the event demands nothing, and was sent
pub sent-delivers : (event : Event) (a b c : LiveState) → b ≡ a → Pushes event b c → Delivers event a c
sent-delivers event a b c e pushes = inl (subst (λ (x : LiveState). Pushes event x c) e pushes)

-- What the event demands by its name was done. `t` is the view of the fields of a live test master of the
-- value `s`.
pub obeyed-is : (event : Event) (name shown : List ℕ) (done : Bool) (s t u : LiveState) → event ≡ Other name → shown ≡ name → t ≡ s → done ≡ true → Obeys shown t.out u.out done
    → u ≡ record t { out = u.out } → Obeyed event s u
obeyed-is event name shown done s t u is text view on by rest =
    let named : Obeys name t.out u.out done = subst (λ (n : List ℕ). Obeys n t.out u.out done) text by in
    let obeyed : Obeys name t.out u.out true = subst (Obeys name t.out u.out) on named in
    record {
      name = name;
      is = is;
      done = subst (λ (x : LiveState). Obeys name x.out u.out true) view obeyed;
      rest = rest ∙ ap (λ (x : LiveState). record x { out = u.out }) view;
    }

-- the event that was taken from the front is sent by a last call if it succeeds
pub taken-last : {T E : Type 0} (result : Result T E) (event : Event) (a b c : LiveState) → a ≡ with_first event b → OnOk result (StepsTo IsDelivering (with_first event b) c)
    → OnOk result (StepsTo IsDelivering a c)
taken-last {T} {E} result event a b c is last = subst (λ (x : LiveState). OnOk result (StepsTo IsDelivering x c)) (sym is) last

stored-leads : (event : Event) (a b : LiveState) → b ≡ with_last event a → Leads a (waits event ∷ []) b
stored-leads event a b is =
    leads-one (waits event) a b (ap (λ (x : LiveState). x.master) is) (ap (λ (x : LiveState). x.out) is) (ap (λ (x : LiveState). x.cluster.tasks) is) (ap (λ (x : LiveState). x.waiting) is)

-- an event joins those that wait, and then events are sent
pub stored-begins : (event : Event) (a b c : LiveState) → b ≡ with_last event a → StepsTo IsDelivering b c → BeginsWith IsDelivering (waits event ∷ []) a c
stored-begins event a b c is after =
    record { rest = after.steps; allowed = after.allowed; leads = leads-then a b c (waits event ∷ []) after.steps (stored-leads event a b is) after.leads }

-- ---- the order of events

left-first : (came left : List Event) (old next new : List Event) (more gone : List Event) → old ++ came ≡ left ++ next → next ++ more ≡ gone ++ new
    → old ++ (came ++ more) ≡ (left ++ gone) ++ new
left-first came left old next new more gone first rest =
    sym (append_assoc old came more) ∙ ap (λ (l : List Event). l ++ more) first ∙ append_assoc left next more ∙ ap (λ (l : List Event). left ++ l) rest ∙ sym (append_assoc left gone new)

step-order : (step : Step) (old next : List Event) → StepsWaiting step old next → old ++ arrived_by step ≡ taken_by step ++ next
step-order (sends now event) old next is = append-nil old ∙ sym is
step-order (resends now event) old next is = append-nil old ∙ sym is
step-order (relays now event) old next is = append-nil old ∙ is
step-order (reports now index update finishes status) old next is = append-nil old ∙ sym is
step-order beats old next is = append-nil old ∙ sym is
step-order (obeys name) old next is = append-nil old ∙ is
step-order (waits event) old next is = sym is
step-order (drops event) old next is = append-nil old ∙ is
step-order (releases now) old next is = append-nil old ∙ sym is
step-order (goes bytes) old next is = append-nil old ∙ sym is
step-order clears old next is = append-nil old ∙ sym is
step-order (notes fault) old next is = append-nil old ∙ sym is
step-order takes old next is = append-nil old ∙ sym is
step-order (launches launch tasks) old next is = append-nil old ∙ sym is
step-order (acknowledges body) old next is = append-nil old ∙ sym is
step-order (kills id) old next is = append-nil old ∙ sym is
step-order (handles call given) old next is = append-nil old ∙ sym is
step-order breaks old next is = append-nil old ∙ sym is

pub waiting-order : (old new : List Event) (steps : List Step) → LeadsWaiting old steps new → old ++ flat_map arrived_by steps ≡ flat_map taken_by steps ++ new
waiting-order old new [] leads = append-nil old ∙ sym leads
waiting-order old new (step ∷ steps) (next, is, rest) =
    left-first (arrived_by step) (taken_by step) old next new (flat_map arrived_by steps) (flat_map taken_by steps) (step-order step old next is) (waiting-order next new steps rest)
