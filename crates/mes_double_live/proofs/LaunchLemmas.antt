-- Which tasks of an ACCEPT are launched, and that a call whose tasks fit is handled as it is.
use Rattle.std.proofs.Common.{◌≡◌, ◌∙◌, ℕ, zero, suc, ◌≤◌, ◌<◌, Bool, true, false, ◌&&◌, ◌||◌, not, ◌⊎◌, inl, inr, if◌then◌else◌, List, [], ◌∷◌, ◌++◌, ◌+◌, length, get_or, take, Option, Some, None, refl, sym, ap, subst, arith}
use Rattle.std.specs.List.{list_all, list_any}
use Rattle.std.specs.Prelude.{IfNone, IfSome, Result, Ok, Err, OnOk, is_some, slice_get}
use Rattle.std.specs.Str.{bytes_eq}
use Rattle.std.proofs.lemmas.Grind.{flat_map-append}
use Rattle.std.proofs.lemmas.List.{append-nil, append_assoc, map-append, take_all, take_more}
use Rattle.std.proofs.lemmas.List.Folds.{list_all-append, list_any-append}
use Rattle.std.proofs.lemmas.Slice.Eq.{bytes_eq-Decides}
use Rattle.mes_model.specs.Id.{Id}
use Rattle.mes_model.specs.Offer.{Offer}
use Rattle.mes_model.specs.Resource.{Resource}
use Rattle.mes_model.specs.TaskInfo.{TaskInfo}
use Rattle.mes_msg.specs.Accept.{Accept}
use Rattle.mes_msg.specs.Call.{Call}
use Rattle.mes_msg.specs.Operation.{Operation}
use Rattle.mes_msg.specs.Call.TheVariants as of
use Rattle.mes_session_fit.specs.Fits.{piece_of, has_piece, is_free, others, amount, asked, offered, Fits, BreaksAt}
use Rattle.mes_session_fit.specs.Keys.{key_of}
use Rattle.mes_session_fit.specs.Launched.{launched, launched_by}
use Rattle.mes_session_fit.proofs.FitsLemmas.{and-true, of-own}
use Rattle.mes_session_fit.proofs.ListLemmas.{any-at}
use Rattle.mes_session_state.specs.Held.{without_offers}
use Rattle.mes_session_state.specs.Calls.{accept_call, operations_of, tasks_of}
use Rattle.mes_session_state.specs.Refusals.{has_two_agents, ids_of, is_agent, is_among}
use Rattle.mes_double_cluster.specs.Fitting.{IsFirstUnfitting}
use Rattle.mes_double_master.specs.Agents.{are_of, are_there}
use Rattle.mes_double_master.specs.Masters.{MasterAnswer, MasterState, all_there, agrees, carried_out, handled, in_stream, is_named, launchable, named, plain}
use Rattle.mes_double_master.proofs.FitLemmas.{fits-nothing}
use Rattle.mes_double_master_state.specs.Ids.{new_tasks, same_id}
use Rattle.mes_double_live.specs.Launching.{is_kept, AddsAll, IsAll, IsPlan}
use Rattle.mes_double_live.specs.Lives.{LiveState}
use Rattle.mes_double_live.specs.Moving.{IsWhole}
use Rattle.mes_double_live.specs.Steps.{Handles}
use Rattle.mes_double_live.proofs.FitLemmas.{made-fits, other-fits}

-- ---- new tasks

news-by : (known : List Id) (t : TaskInfo) (ts : List TaskInfo) (b : Bool) → is_among t.task_id known ≡ b
    → new_tasks known (t ∷ ts) ≡ (if b then new_tasks known ts else t ∷ new_tasks (known ++ t.task_id ∷ []) ts)
news-by known t ts b e = ap (λ (b : Bool). if b then new_tasks known ts else t ∷ new_tasks (known ++ t.task_id ∷ []) ts) e

-- the new tasks of two lists, one after the other
news-append : (known : List Id) (ts us : List TaskInfo) → new_tasks known (ts ++ us) ≡ new_tasks known ts ++ new_tasks (known ++ ids_of (new_tasks known ts)) us
news-append known [] us = ap (λ (k : List Id). new_tasks k us) (sym (append-nil known))
news-append known (t ∷ ts) us = by (is_among t.task_id known) refl (λ k. news-append k ts us)
  where
    all : List TaskInfo → List TaskInfo
    all front = front ++ new_tasks (known ++ ids_of front) us

    by : (b : Bool) → is_among t.task_id known ≡ b
        → ((k : List Id) → new_tasks k (ts ++ us) ≡ new_tasks k ts ++ new_tasks (k ++ ids_of (new_tasks k ts)) us)
        → new_tasks known (t ∷ ts ++ us) ≡ all (new_tasks known (t ∷ ts))
    by true e rest = news-by known t (ts ++ us) true e ∙ rest known ∙ sym (ap all (news-by known t ts true e))
    by false e rest =
        let more = known ++ t.task_id ∷ [] in
        news-by known t (ts ++ us) false e
        ∙ ap (λ (l : List TaskInfo). t ∷ l) (rest more)
        ∙ ap (λ (k : List Id). t ∷ new_tasks more ts ++ new_tasks k us) (append_assoc known (t.task_id ∷ []) (ids_of (new_tasks more ts)))
        ∙ sym (ap all (news-by known t ts false e))

-- new tasks are new tasks
news-twice : (known : List Id) (ts : List TaskInfo) → new_tasks known (new_tasks known ts) ≡ new_tasks known ts
news-twice known [] = refl
news-twice known (t ∷ ts) = by (is_among t.task_id known) refl (λ k. news-twice k ts)
  where
    by : (b : Bool) → is_among t.task_id known ≡ b → ((k : List Id) → new_tasks k (new_tasks k ts) ≡ new_tasks k ts)
        → new_tasks known (new_tasks known (t ∷ ts)) ≡ new_tasks known (t ∷ ts)
    by true e rest = ap (new_tasks known) (news-by known t ts true e) ∙ rest known ∙ sym (news-by known t ts true e)
    by false e rest =
        let more = known ++ t.task_id ∷ [] in
        ap (new_tasks known) (news-by known t ts false e)
        ∙ news-by known t (new_tasks more ts) false e
        ∙ ap (λ (l : List TaskInfo). t ∷ l) (rest more)
        ∙ sym (news-by known t ts false e)

-- ---- agents

same-value : (a b : List ℕ) → bytes_eq a b ≡ true → a ≡ b
same-value a b e = (bytes_eq-Decides a b).0 e

swapped : (a b : List ℕ) → bytes_eq a b ≡ bytes_eq b a
swapped a b = by (bytes_eq a b) (bytes_eq b a) refl refl
  where
    by : (x y : Bool) → bytes_eq a b ≡ x → bytes_eq b a ≡ y → bytes_eq a b ≡ bytes_eq b a
    by true y e f = e ∙ sym ((bytes_eq-Decides b a).1 (sym (same-value a b e)))
    by false true e f = (bytes_eq-Decides a b).1 (sym (same-value b a f)) ∙ sym f
    by false false e f = e ∙ sym f

and-of : (a b c d : Bool) → a ≡ c → b ≡ not d → (a && b) ≡ not (not c || d)
and-of a b true d e f = ap (λ (x : Bool). x && b) e ∙ f
and-of a b false d e f = ap (λ (x : Bool). x && b) e

-- the offers are of the agent of the first
pub of-first : (first : Offer) (os : List Offer) → are_of first.agent_id os ≡ not (list_any (λ (o : Offer). not (is_agent (Some first.agent_id) o.agent_id)) os)
of-first first [] = refl
of-first first (o ∷ os) = and-of _ _ _ _ (swapped o.agent_id.value first.agent_id.value) (of-first first os)

and-first : (a b : Bool) → (a && b) ≡ true → a ≡ true
and-first true b e = refl
and-first false b e = absurd (cc)

and-last : (a b : Bool) → (a && b) ≡ true → b ≡ true
and-last true b e = e
and-last false b e = absurd (cc)

and-off : (a b : Bool) → b ≡ false → (a && b) ≡ false
and-off true b e = e
and-off false b e = refl

not-false : (b : Bool) → not b ≡ false → b ≡ true
not-false true e = refl
not-false false e = absurd (cc)

not-true : (b : Bool) → not b ≡ true → b ≡ false
not-true true e = absurd (cc)
not-true false e = refl

or-first : (a b : Bool) → (a || b) ≡ false → a ≡ false
or-first true b e = absurd (cc)
or-first false b e = refl

-- an offer is of another agent
pub of-other : (agent : Id) (os : List Offer) (i : ℕ) (o : Offer) → slice_get os i ≡ Some o → bytes_eq o.agent_id.value agent.value ≡ false → are_of agent os ≡ false
of-other agent [] i o at other = absurd (cc)
of-other agent (x ∷ os) zero o at other = (let same : x ≡ o = cc in ap (λ (b : Bool). b && are_of agent os) (ap (λ (y : Offer). bytes_eq y.agent_id.value agent.value) same ∙ other))
of-other agent (x ∷ os) (suc i) o at other = and-off (bytes_eq x.agent_id.value agent.value) (are_of agent os) (of-other agent os i o at other)

-- the first offer is of another agent than one of them
pub two-agents : (first : Offer) (os : List Offer) → are_of first.agent_id (first ∷ os) ≡ false → has_two_agents (first ∷ os) ≡ true
two-agents first os other = not-false _ (sym (of-first first (first ∷ os)) ∙ other)

pub two-agents-at : (offers : List Offer) (first : Offer) (agent : Id) → slice_get offers 0 ≡ Some first → agent ≡ first.agent_id → are_of agent offers ≡ false → has_two_agents offers ≡ true
two-agents-at [] first agent at is other = absurd (cc)
two-agents-at (x ∷ os) first agent at is other =
    (let same : x ≡ first = cc in two-agents x os (ap (λ (o : Offer). are_of o.agent_id (x ∷ os)) same ∙ ap (λ (d : Id). are_of d (x ∷ os)) (sym is) ∙ other))

-- if a task is of the agent of all offers, these are of one agent
not-two : (t : TaskInfo) (offers : List Offer) → are_of t.agent_id offers ≡ true → has_two_agents offers ≡ false
not-two t [] of = refl
not-two t (first ∷ os) of =
    let same : first.agent_id.value ≡ t.agent_id.value = same-value _ _ (and-first _ _ of) in
    not-true _ (sym (of-first first (first ∷ os)) ∙ ap (λ (v : List ℕ). list_all (λ (o : Offer). bytes_eq o.agent_id.value v) (first ∷ os)) same ∙ of)

-- ---- the tasks of a plan

-- the tasks of two lists, one after the other
pub adds-then : (known : List Id) (ts us : List TaskInfo) (offers : List Offer) (a b c : List TaskInfo) → AddsAll known ts offers a b → AddsAll known us offers b c → AddsAll known (ts ++ us) offers a c
adds-then known ts us offers a b c first next there =
    let all = known ++ ids_of a in
    let front = new_tasks all ts in
    let more = new_tasks (all ++ ids_of front) us in
    let split : new_tasks all (ts ++ us) ≡ front ++ more = news-append all ts us in
    let both : (are_there offers front && are_there offers more) ≡ true =
    sym (list_all-append (λ (t : TaskInfo). are_of t.agent_id offers) front more) ∙ ap (are_there offers) (sym split) ∙ there in
    let here : b ≡ a ++ front = first (and-first _ _ both) in
    let ids : known ++ ids_of b ≡ all ++ ids_of front =
    ap (λ (l : List TaskInfo). known ++ ids_of l) here ∙ ap (λ (l : List Id). known ++ l) (map-append (λ (t : TaskInfo). t.task_id) a front)
    ∙ sym (append_assoc known (ids_of a) (ids_of front)) in
    let last : c ≡ b ++ new_tasks (known ++ ids_of b) us =
    next (ap (λ (k : List Id). are_there offers (new_tasks k us)) ids ∙ and-last _ _ both) in
    last
    ∙ ap (λ (k : List Id). b ++ new_tasks k us) ids
    ∙ ap (λ (l : List TaskInfo). l ++ more) here
    ∙ append_assoc a front more
    ∙ ap (λ (l : List TaskInfo). a ++ l) (sym split)

pub adds-none : (known : List Id) (offers : List Offer) (a : List TaskInfo) → AddsAll known [] offers a a
adds-none known offers a none = sym (append-nil a)

among-both : (t : TaskInfo) (known : List Id) (a : List TaskInfo) → is_among t.task_id (known ++ ids_of a) ≡ (is_among t.task_id known || is_among t.task_id (ids_of a))
among-both t known a = list_any-append (same_id t.task_id) known (ids_of a)

kept-ids : (id : Id) (tasks : List TaskInfo) → is_kept id tasks ≡ is_among id (ids_of tasks)
kept-ids id [] = refl
kept-ids id (t ∷ ts) = ap (λ (b : Bool). bytes_eq id.value t.task_id.value || b) (kept-ids id ts)

among-all : (t : TaskInfo) (known : List Id) (a : List TaskInfo) → is_among t.task_id (known ++ ids_of a) ≡ (is_among t.task_id known || is_kept t.task_id a)
among-all t known a = among-both t known a ∙ ap (λ (b : Bool). is_among t.task_id known || b) (sym (kept-ids t.task_id a))

-- a task that is refused is known, or of another agent
pub adds-refused : (known : List Id) (t : TaskInfo) (offers : List Offer) (a : List TaskInfo)
    → ((is_among t.task_id known || is_kept t.task_id a) ≡ true) ⊎ (are_of t.agent_id offers ≡ false) → AddsAll known (t ∷ []) offers a a
adds-refused known t offers a refused there = by (is_among t.task_id (known ++ ids_of a)) refl
  where
    all : List Id
    all = known ++ ids_of a

    by : (b : Bool) → is_among t.task_id all ≡ b → a ≡ a ++ new_tasks all (t ∷ [])
    by true e = sym (append-nil a) ∙ ap (λ (l : List TaskInfo). a ++ l) (sym (news-by all t [] true e))
    by false e =
        let of : are_of t.agent_id offers ≡ true = and-first _ true (ap (are_there offers) (sym (news-by all t [] false e)) ∙ there) in
        let new : (is_among t.task_id known || is_kept t.task_id a) ≡ false = sym (among-all t known a) ∙ e in
        elim refused [
          | inl known ↦ absurd (cc)
          | inr other ↦ absurd (cc)
        ]

-- a task that is launched is new
pub adds-one : (known : List Id) (t : TaskInfo) (offers : List Offer) (a b : List TaskInfo) → (is_among t.task_id known || is_kept t.task_id a) ≡ false → b ≡ a ++ t ∷ []
    → AddsAll known (t ∷ []) offers a b
adds-one known t offers a b new is there =
    is ∙ ap (λ (l : List TaskInfo). a ++ l) (sym (news-by (known ++ ids_of a) t [] false (among-all t known a ∙ new)))

some-then : {X : Type 0} (found : Option X) (x : X) (P : X → Type 0) → found ≡ Some x → IfSome found P → P x
some-then {X} found x P is all = subst (λ (f : Option X). IfSome f P) is all

-- the same by the result of looking at the task; `kept` are the tasks before it
pub refused-adds : {X : Type 0} (found : Option X) (x : X) (known : List Id) (t : TaskInfo) (offers : List Offer) (kept a : List TaskInfo) → found ≡ Some x → kept ≡ a
    → IfSome found (λ y. ((is_among t.task_id known || is_kept t.task_id kept) ≡ true) ⊎ (are_of t.agent_id offers ≡ false)) → AddsAll known (t ∷ []) offers a a
refused-adds found x known t offers kept a is same refused =
    adds-refused known t offers a
    (subst (λ (l : List TaskInfo). ((is_among t.task_id known || is_kept t.task_id l) ≡ true) ⊎ (are_of t.agent_id offers ≡ false)) same
    (some-then found x (λ y. ((is_among t.task_id known || is_kept t.task_id kept) ≡ true) ⊎ (are_of t.agent_id offers ≡ false)) is refused))

pub launched-adds : {X : Type 0} (found : Option X) (known : List Id) (t copy : TaskInfo) (offers : List Offer) (kept a b : List TaskInfo) → found ≡ None → kept ≡ a
    → IfNone found ((is_among t.task_id known || is_kept t.task_id kept) ≡ false) → copy ≡ t → b ≡ a ++ copy ∷ [] → AddsAll known (t ∷ []) offers a b
launched-adds {X} found known t copy offers kept a b is same new copied pushed =
    let none : IfNone {T = X} None ((is_among t.task_id known || is_kept t.task_id kept) ≡ false) =
    subst (λ (f : Option X). IfNone f ((is_among t.task_id known || is_kept t.task_id kept) ≡ false)) is new in
    adds-one known t offers a b (ap (λ (l : List TaskInfo). is_among t.task_id known || is_kept t.task_id l) (sym same) ∙ none)
    (pushed ∙ ap (λ (x : TaskInfo). a ++ x ∷ []) copied)

-- one more task
pub adds-next : (known : List Id) (ts : List TaskInfo) (i : ℕ) (t : TaskInfo) (offers : List Offer) (a b c : List TaskInfo) → i < length ts → t ≡ get_or ts i t
    → AddsAll known (take i ts) offers a b → AddsAll known (t ∷ []) offers b c → AddsAll known (take (i + 1) ts) offers a c
adds-next known ts i t offers a b c within is first next =
    subst (λ (l : List TaskInfo). AddsAll known l offers a c) (sym (take_more ts i t within ∙ ap (λ (x : TaskInfo). take i ts ++ x ∷ []) (sym is)))
    (adds-then known (take i ts) (t ∷ []) offers a b c first next)

-- the tasks of one more operation
pub adds-group : (known : List Id) (groups : List Operation) (i : ℕ) (group : Operation) (tasks : List TaskInfo) (offers : List Offer) (a b c : List TaskInfo) → i < length groups
    → group ≡ get_or groups i group → launched_by group ≡ tasks → AddsAll known (launched launched_by (take i groups)) offers a b → AddsAll known tasks offers b c
    → AddsAll known (launched launched_by (take (i + 1) groups)) offers a c
adds-group known groups i group tasks offers a b c within is are first next =
    let more : take (i + 1) groups ≡ take i groups ++ group ∷ [] = take_more groups i group within ∙ ap (λ (x : Operation). take i groups ++ x ∷ []) (sym is) in
    let all : launched launched_by (take (i + 1) groups) ≡ launched launched_by (take i groups) ++ tasks =
    ap (launched launched_by) more
    ∙ flat_map-append launched_by (take i groups) (group ∷ [])
    ∙ ap (λ (l : List TaskInfo). launched launched_by (take i groups) ++ l) (append-nil (launched_by group) ∙ are) in
    subst (λ (l : List TaskInfo). AddsAll known l offers a c) (sym all) (adds-then known (launched launched_by (take i groups)) tasks offers a b c first next)

-- all tasks
pub adds-all : (known : List Id) (ts : List TaskInfo) (i : ℕ) (offers : List Offer) (a b : List TaskInfo) → length ts ≤ i → AddsAll known (take i ts) offers a b → AddsAll known ts offers a b
adds-all known ts i offers a b beyond adds = subst (λ (l : List TaskInfo). AddsAll known l offers a b) (take_all i ts beyond) adds

pub adds-groups : (known : List Id) (groups : List Operation) (i : ℕ) (offers : List Offer) (a b : List TaskInfo) → length groups ≤ i
    → AddsAll known (launched launched_by (take i groups)) offers a b → AddsAll known (launched launched_by groups) offers a b
adds-groups known groups i offers a b beyond adds = subst (λ (l : List Operation). AddsAll known (launched launched_by l) offers a b) (take_all i groups beyond) adds

-- ---- tasks that fit

pub fits-breach : (offers : List Offer) (tasks : List TaskInfo) (i j : ℕ) → Fits offers tasks → BreaksAt offers tasks i j → ⊥
fits-breach offers tasks i j fits breach = elim breach.breaks [
  | inl more ↦ (let most : amount (key_of breach.resource) (asked tasks) ≤ amount (key_of breach.resource) (offered offers) = fits.amounts (key_of breach.resource) in omega (arith, more, most))
  | inr (p, has, lost) ↦ (
      let here : piece_of (key_of breach.resource) p breach.resource ≡ true = and-true _ _ (of-own breach.resource) has in
      let takes : has_piece (key_of breach.resource) p breach.task.resources ≡ true = any-at (piece_of (key_of breach.resource) p) breach.task.resources j breach.resource breach.resource_at here in
      let free : is_free (key_of breach.resource) p offers (others i tasks) ≡ true = fits.pieces i breach.task breach.task_at (key_of breach.resource) p takes in
      cc
      )
]

-- all tasks were added, and all of them fit
pub all-fit : (known : List Id) (ts : List TaskInfo) (offers : List Offer) (old new : List TaskInfo) → old ≡ [] → AddsAll known ts offers old new → IsAll (new_tasks known ts) offers new
all-fit known ts offers old new empty adds fits there =
    let ids : known ++ ids_of old ≡ known = ap (λ (l : List TaskInfo). known ++ ids_of l) empty ∙ append-nil known in
    adds (ap (λ (k : List Id). are_there offers (new_tasks k ts)) ids ∙ there)
    ∙ ap (λ (k : List Id). old ++ new_tasks k ts) ids
    ∙ ap (λ (l : List TaskInfo). l ++ new_tasks known ts) empty

-- all tasks were added, and not all of them fit
pub not-all-fit : (known : List Id) (ts : List TaskInfo) (offers : List Offer) (old mid new : List TaskInfo) (r : Resource) → old ≡ [] → AddsAll known ts offers old mid
    → IsFirstUnfitting offers mid r → IsAll (new_tasks known ts) offers new
not-all-fit known ts offers old mid new r empty adds unfit fits there =
    let all : mid ≡ new_tasks known ts = all-fit known ts offers old mid empty adds fits there in
    absurd (fits-breach offers mid unfit.task unfit.at (subst (Fits offers) (sym all) fits) unfit.first.breach)

pub on-anyway : {T E : Type 0} (result : Result T E) (P : Type 0) → P → OnOk result P
on-anyway (Ok x) P holds = holds
on-anyway (Err why) P holds = tt

-- the same if a resource was found that does not fit
pub all-not-fit : {R : Type 0} (resource : R → Resource) (known : List Id) (ts : List TaskInfo) (offers : List Offer) (old mid new : List TaskInfo) (found : Option R) → old ≡ []
    → AddsAll known ts offers old mid → is_some found ≡ true → IfSome found (λ r. IsFirstUnfitting offers mid (resource r)) → IsAll (new_tasks known ts) offers new
all-not-fit resource known ts offers old mid new None empty adds some unfit = absurd (cc)
all-not-fit resource known ts offers old mid new (Some r) empty adds some unfit = not-all-fit known ts offers old mid new (resource r) empty adds unfit

launches-by : (m : MasterState) (ids : List Id) (ts : List TaskInfo) (b : Bool) → all_there m.outstanding ids ≡ b → launchable m ids ts ≡ (if b then new_tasks m.launched ts else [])
launches-by m ids ts b e = ap (λ (b : Bool). if b then new_tasks m.launched ts else []) e

-- nothing is launched, since an offer is not outstanding
pub plan-none : (m : MasterState) (body : Accept) → all_there m.outstanding body.offer_ids ≡ false → IsPlan m body []
plan-none m body off = record {
  fits = fits-nothing (named body.offer_ids m.outstanding);
  whole = λ fits there. sym (launches-by m body.offer_ids (launched launched_by body.operations) false off);
}

none-there : (offers : List Offer) (launches : List TaskInfo) → has_two_agents offers ≡ true → are_there offers launches ≡ true → [] ≡ launches
none-there offers [] two there = refl
none-there offers (t ∷ ts) two there = absurd (let one : has_two_agents offers ≡ false = not-two t offers (and-first _ _ there) in cc)

-- of offers of two agents nothing is launched
pub apart-fits : {T E : Type 0} (result : Result T E) (offers : List Offer) (tasks : List TaskInfo) → tasks ≡ [] → OnOk result (Fits offers tasks)
apart-fits result offers tasks none = on-anyway result (Fits offers tasks) (subst (Fits offers) (sym none) (fits-nothing offers))

pub apart-all : {T E : Type 0} (result : Result T E) (launches : List TaskInfo) (offers : List Offer) (tasks : List TaskInfo) → tasks ≡ [] → has_two_agents offers ≡ true
    → OnOk result (IsAll launches offers tasks)
apart-all result launches offers tasks none two = on-anyway result (IsAll launches offers tasks) (λ fits there. none ∙ none-there offers launches two there)

-- what fits is launched
pub plan-on : (m : MasterState) (body : Accept) (tasks : List TaskInfo) → all_there m.outstanding body.offer_ids ≡ true → Fits (named body.offer_ids m.outstanding) tasks
    → IsAll (new_tasks m.launched (launched launched_by body.operations)) (named body.offer_ids m.outstanding) tasks → IsPlan m body tasks
plan-on m body tasks on fits all = record {
  fits = fits;
  whole = subst (λ (l : List TaskInfo). IsAll l (named body.offer_ids m.outstanding) tasks) (sym (launches-by m body.offer_ids (launched launched_by body.operations) true on)) all;
}

-- the plan of an ACCEPT of these outstanding offers
pub plan-of : (m : MasterState) (body : Accept) (ids : List Id) (operations : List Operation) (outstanding offers : List Offer) (tasks : List TaskInfo) → ids ≡ body.offer_ids
    → operations ≡ body.operations → outstanding ≡ m.outstanding → offers ≡ named ids outstanding → all_there outstanding ids ≡ true → Fits offers tasks
    → IsAll (new_tasks m.launched (launched launched_by operations)) offers tasks → IsPlan m body tasks
plan-of m body ids operations outstanding offers tasks i o s are there fits all =
    let same : offers ≡ named body.offer_ids m.outstanding = are ∙ ap (λ (l : List Id). named l outstanding) i ∙ ap (named body.offer_ids) s in
    let on : all_there m.outstanding body.offer_ids ≡ true = ap (λ (l : List Id). all_there m.outstanding l) (sym i) ∙ ap (λ (l : List Offer). all_there l ids) (sym s) ∙ there in
    plan-on m body tasks on (subst (λ (l : List Offer). Fits l tasks) same fits)
    (subst (λ (l : List Offer). IsAll (new_tasks m.launched (launched launched_by body.operations)) l tasks) same
    (subst (λ (l : List Operation). IsAll (new_tasks m.launched (launched launched_by l)) offers tasks) o all))

-- ---- the call that is handled

operations-launch : (tasks : List TaskInfo) → launched launched_by (operations_of tasks) ≡ tasks
operations-launch [] = refl
operations-launch (t ∷ ts) = append-nil (t ∷ ts)

launches-twice : (m : MasterState) (ids : List Id) (ts : List TaskInfo) (b : Bool) → all_there m.outstanding ids ≡ b → launchable m ids (launchable m ids ts) ≡ launchable m ids ts
launches-twice m ids ts true e =
    launches-by m ids (launchable m ids ts) true e ∙ ap (new_tasks m.launched) (launches-by m ids ts true e) ∙ news-twice m.launched ts ∙ sym (launches-by m ids ts true e)
launches-twice m ids ts false e = launches-by m ids (launchable m ids ts) false e ∙ sym (launches-by m ids ts false e)

-- what the response launches fits the offers that it takes, and is of their agent
abbrev Whole : MasterAnswer → Type 0
Whole answer = Fits answer.took answer.ran × (are_there answer.took answer.ran ≡ true)

-- the ACCEPT of the tasks of a plan
abbrev planned : Accept → List TaskInfo → Accept
planned body tasks = record { offer_ids = body.offer_ids; operations = operations_of tasks; filters = None }

module _ (m : MasterState) (framework : Id) (body : Accept) (tasks : List TaskInfo) (plan : IsPlan m body tasks) where
  carried-whole : Fits (named body.offer_ids m.outstanding) (launchable m body.offer_ids (launched launched_by body.operations))
      → are_there (named body.offer_ids m.outstanding) (launchable m body.offer_ids (launched launched_by body.operations)) ≡ true
      → (carried_out m (of.Accept framework (planned body tasks))).master ≡ (carried_out m (of.Accept framework body)).master
  carried-whole fits there =
      let all : tasks ≡ launchable m body.offer_ids (launched launched_by body.operations) = plan.whole fits there in
      let same : launchable m body.offer_ids (launched launched_by (operations_of tasks)) ≡ launchable m body.offer_ids (launched launched_by body.operations) =
      ap (launchable m body.offer_ids) (operations-launch tasks ∙ all)
      ∙ launches-twice m body.offer_ids (launched launched_by body.operations) (all_there m.outstanding body.offer_ids) refl in
      ap (λ (l : List TaskInfo). record m { outstanding = without_offers body.offer_ids m.outstanding; launched = m.launched ++ ids_of l }) same

  named-whole : (named : Bool) → Whole (if named then carried_out m (of.Accept framework body) else plain 400 m)
      → (if named then carried_out m (of.Accept framework (planned body tasks)) else plain 400 m).master ≡ (if named then carried_out m (of.Accept framework body) else plain 400 m).master
  named-whole true (fits, there) = carried-whole fits there
  named-whole false whole = refl

  stream-whole : (stream given : Option (List ℕ)) → Whole (in_stream m (of.Accept framework body) stream given)
      → (in_stream m (of.Accept framework (planned body tasks)) stream given).master ≡ (in_stream m (of.Accept framework body) stream given).master
  stream-whole None given whole = refl
  stream-whole (Some current) given whole = named-whole (is_named current given) whole

  refused-whole : (refused : Bool) (given : Option (List ℕ)) → Whole (if refused then plain 403 m else in_stream m (of.Accept framework body) m.stream given)
      → (if refused then plain 403 m else in_stream m (of.Accept framework (planned body tasks)) m.stream given).master
      ≡ (if refused then plain 403 m else in_stream m (of.Accept framework body) m.stream given).master
  refused-whole true given whole = refl
  refused-whole false given whole = stream-whole m.stream given whole

  -- an ACCEPT whose tasks fit is handled as it is
  whole-launch : (given : Option (List ℕ)) → IsWhole m (of.Accept framework body) given
      → (handled m (accept_call framework body.offer_ids tasks None) given).master ≡ (handled m (of.Accept framework body) given).master
  whole-launch given whole = refused-whole (m.down || not (agrees m.framework (Some framework))) given (whole.fits, whole.there)

-- `t` is the view of the fields of a live test master of the value `s`
pub launched-handles : (s t : LiveState) (n : MasterState) (call : Call) (framework : Id) (body : Accept) (tasks : List TaskInfo) (given : Option (List ℕ)) → t ≡ s → IsPlan s.master body tasks
    → call ≡ accept_call framework body.offer_ids tasks None → n ≡ (handled t.master call given).master → Handles (of.Accept framework body) given s.master n
launched-handles s t n call framework body tasks given view plan made is =
    let done : n ≡ (handled s.master (accept_call framework body.offer_ids tasks None) given).master =
    is ∙ ap (λ (x : LiveState). (handled x.master call given).master) view ∙ ap (λ (c : Call). (handled s.master c given).master) made in
    record {
      done = accept_call framework body.offer_ids tasks None;
      same = inr (tasks, refl);
      fits = made-fits s.master framework body.offer_ids tasks None given plan.fits;
      is = done;
      whole = λ whole. done ∙ whole-launch s.master framework body tasks plan given whole;
    }

pub other-handles : (s t : LiveState) (n : MasterState) (call : Call) (given : Option (List ℕ)) → t ≡ s → tasks_of call ≡ [] → n ≡ (handled t.master call given).master
    → Handles call given s.master n
other-handles s t n call given view none is =
    let done : n ≡ (handled s.master call given).master = is ∙ ap (λ (x : LiveState). (handled x.master call given).master) view in
    record { done = call; same = inl refl; fits = other-fits s.master call given none; is = done; whole = λ whole. done }
