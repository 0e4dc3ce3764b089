-- Tasks that are of the agent of offers.
use Rattle.std.proofs.Common.{◌≡◌, ◌∙◌, ℕ, zero, suc, Bool, true, false, ◌&&◌, ◌||◌, not, if◌then◌else◌, List, [], ◌∷◌, ◌++◌, Some, refl, sym, ap, slice_get}
use Rattle.std.specs.List.{list_all, list_any}
use Rattle.std.specs.List.Sorted.{IsPermutation}
use Rattle.std.specs.Str.{bytes_eq}
use Rattle.std.proofs.lemmas.List.Sorted.{list_any-IsPermutation}
use Rattle.std.proofs.lemmas.Slice.Eq.{bytes_eq-Decides}
use Rattle.mes_model.specs.Id.{Id}
use Rattle.mes_model.specs.Offer.{Offer}
use Rattle.mes_model.specs.TaskInfo.{TaskInfo}
use Rattle.mes_session_state.specs.Refusals.{has_two_agents, is_agent, is_among, is_elsewhere}
use Rattle.mes_double_master.specs.Agents.{are_of, are_there}
use Rattle.mes_double_master.specs.Masters.{new_tasks}

pub not-so : (b : Bool) → (b ≡ true → ⊥) → b ≡ false
not-so true f = absurd (f refl)
not-so false f = refl

not-back : (b : Bool) → not b ≡ false → b ≡ true
not-back true e = refl
not-back false e = absurd (cc)

or-parts : (a b : Bool) → (a || b) ≡ false → (a ≡ false) × (b ≡ false)
or-parts true b e = absurd (cc)
or-parts false b e = (refl, e)

and-parts : (a b : Bool) → (a && b) ≡ true → (a ≡ true) × (b ≡ true)
and-parts true b e = (refl, e)
and-parts false b e = absurd (cc)

and-both : (a b : Bool) → a ≡ true → b ≡ true → (a && b) ≡ true
and-both a b e f = ap (λ (x : Bool). x && b) e ∙ f

same-value : (a b : List ℕ) → bytes_eq a b ≡ true → a ≡ b
same-value a b e = (bytes_eq-Decides a b).0 e

-- all offers are of the agent of the first
of-all : (agent : Id) (other : Id) (os : List Offer) → agent.value ≡ other.value → list_any (λ (o : Offer). not (is_agent (Some agent) o.agent_id)) os ≡ false → are_of other os ≡ true
of-all agent other [] same none = refl
of-all agent other (o ∷ os) same none =
    let parts = or-parts _ _ none in
    let here : o.agent_id.value ≡ other.value = sym (same-value agent.value o.agent_id.value (not-back _ parts.0)) ∙ same in
    and-both _ _ ((bytes_eq-Decides o.agent_id.value other.value).1 here) (of-all agent other os same parts.1)

of-offers : (offers : List Offer) (t : TaskInfo) → has_two_agents offers ≡ false → is_elsewhere offers t ≡ false → are_of t.agent_id offers ≡ true
of-offers [] t one here = refl
of-offers (first ∷ os) t one here = of-all first.agent_id t.agent_id (first ∷ os) (same-value _ _ (not-back _ here)) one

-- no task is elsewhere than the offers, which are of one agent
pub all-there : (offers : List Offer) (tasks : List TaskInfo) → has_two_agents offers ≡ false
    → ((n : ℕ) (t : TaskInfo) → slice_get tasks n ≡ Some t → is_elsewhere offers t ≡ true → ⊥) → are_there offers tasks ≡ true
all-there offers [] one none = refl
all-there offers (t ∷ ts) one none =
    and-both _ _ (of-offers offers t one (not-so _ (none zero t refl))) (all-there offers ts one (λ n u at. none (suc n) u at))

-- a task is of the agent of all offers unless one is of another
all-by-any : (agent : Id) (os : List Offer) → are_of agent os ≡ not (list_any (λ (o : Offer). not (bytes_eq o.agent_id.value agent.value)) os)
all-by-any agent [] = refl
all-by-any agent (o ∷ os) = by (bytes_eq o.agent_id.value agent.value) (all-by-any agent os)
  where
    by : (b : Bool) → are_of agent os ≡ not (list_any (λ (o : Offer). not (bytes_eq o.agent_id.value agent.value)) os)
        → (b && are_of agent os) ≡ not (not b || list_any (λ (o : Offer). not (bytes_eq o.agent_id.value agent.value)) os)
    by true e = e
    by false e = refl

of-order : (agent : Id) (offers ones : List Offer) → IsPermutation offers ones → are_of agent offers ≡ are_of agent ones
of-order agent offers ones moved =
    all-by-any agent offers
    ∙ ap not (list_any-IsPermutation (λ (o : Offer). not (bytes_eq o.agent_id.value agent.value)) offers ones moved)
    ∙ sym (all-by-any agent ones)

-- the order of the offers does not matter
pub there-order : (offers ones : List Offer) (tasks : List TaskInfo) → IsPermutation offers ones → are_there offers tasks ≡ true → are_there ones tasks ≡ true
there-order offers ones [] moved there = refl
there-order offers ones (t ∷ ts) moved there =
    let parts = and-parts _ _ there in and-both _ _ (sym (of-order t.agent_id offers ones moved) ∙ parts.0) (there-order offers ones ts moved parts.1)

-- the new ones of the tasks
pub there-new : (offers : List Offer) (known : List Id) (tasks : List TaskInfo) → are_there offers tasks ≡ true → are_there offers (new_tasks known tasks) ≡ true
there-new offers known [] there = refl
there-new offers known (t ∷ ts) there = by (is_among t.task_id known) refl (and-parts _ _ there) (λ k. there-new offers k ts)
  where
    by : (b : Bool) → is_among t.task_id known ≡ b → (are_of t.agent_id offers ≡ true) × (are_there offers ts ≡ true)
        → ((k : List Id) → are_there offers ts ≡ true → are_there offers (new_tasks k ts) ≡ true) → are_there offers (new_tasks known (t ∷ ts)) ≡ true
    by true e parts rest = ap (λ (b : Bool). are_there offers (if b then new_tasks known ts else t ∷ new_tasks (known ++ t.task_id ∷ []) ts)) e ∙ rest known parts.1
    by false e parts rest =
        ap (λ (b : Bool). are_there offers (if b then new_tasks known ts else t ∷ new_tasks (known ++ t.task_id ∷ []) ts)) e
        ∙ and-both _ _ parts.0 (rest (known ++ t.task_id ∷ []) parts.1)
