-- On every course no task is launched twice and no offer is taken twice. The proof counts how often
-- each identifier occurs.
use Rattle.std.proofs.Common.{◌≡◌, ℕ, ◌+◌, ◌≤◌, not, List, [], ◌∷◌, ◌++◌, Some, refl, sym, ap, subst, ◌∙◌, arith}
use Rattle.std.specs.Str.{bytes_eq}
use Rattle.std.proofs.lemmas.Grind.{flat_map-append}
use Rattle.std.proofs.lemmas.List.{append-nil}
use Rattle.mes_model.specs.Id.{Id}
use Rattle.mes_model.specs.Offer.{Offer}
use Rattle.mes_model.specs.TaskInfo.{TaskInfo}
use Rattle.mes_session_state.specs.Held.{name_of}
use Rattle.mes_session_state.specs.Refusals.{ids_of}
use Rattle.mes_double_master.specs.Masters.{MasterState, MasterAnswer, plain, subscribed, carried_out}
use Rattle.mes_double_master.specs.Sending.{offer_ids}
use Rattle.mes_double_master.proofs.AgainLemmas.{carried}
use Rattle.mes_double_master.proofs.RunLemmas.{times, times-append, Once, distinct, offered-once, Fine, fine}
use Rattle.mes_double.specs.declared.moves.Move.{Move}
use Rattle.mes_double.specs.Courses.{Arrival, Course, begun, Leads, IsCourse}
use Rattle.mes_double.specs.Promises.{all_ran, all_took, LaunchedOnce, TakenOnce}
use Rattle.mes_double.proofs.CountLemmas.{count, count-append, count-filter, count-with}
use Rattle.mes_double.proofs.TurnLemmas.{Turn, turn, arrival_of}
use Rattle.mes_double.proofs.TurnLemmas.Turn.{skips, offers, rescinds, reports, tells_owing, resends, hears, wishes, refuses, opens, carries, resubscribes}

pub record Counted (c : Course) : Type 0 where
  pub once : Once c.world.master.offered
  -- each offer that was taken or is outstanding was made, and is counted once
  pub took : (x : List ℕ) → count x (all_took c.arrivals) + count x c.world.master.outstanding ≤ times x c.world.master.offered
  pub ran : c.world.master.launched ≡ ids_of (all_ran c.arrivals)
  pub launched : Once c.world.master.launched

took-more : (arrivals : List Arrival) (a : Arrival) (x : List ℕ) → count x (all_took (arrivals ++ a ∷ [])) ≡ count x (all_took arrivals) + count x a.took
took-more arrivals a x =
    ap (count x) (flat_map-append (λ (b : Arrival). b.took) arrivals (a ∷ []) ∙ ap (λ (l : List Offer). all_took arrivals ++ l) (append-nil a.took))
    ∙ count-append x (all_took arrivals) a.took

ids-append : (front tasks : List TaskInfo) → ids_of (front ++ tasks) ≡ ids_of front ++ ids_of tasks
ids-append [] tasks = refl
ids-append (t ∷ front) tasks = ap (λ (l : List Id). t.task_id ∷ l) (ids-append front tasks)

ran-more : (arrivals : List Arrival) (a : Arrival) → ids_of (all_ran (arrivals ++ a ∷ [])) ≡ ids_of (all_ran arrivals) ++ ids_of a.ran
ran-more arrivals a =
    ap ids_of (flat_map-append (λ (b : Arrival). b.ran) arrivals (a ∷ []) ∙ ap (λ (l : List TaskInfo). all_ran arrivals ++ l) (append-nil a.ran))
    ∙ ids-append (all_ran arrivals) a.ran

nothing : (m : MasterState) (a : MasterAnswer) → a.master.offered ≡ m.offered → a.took ≡ [] → a.ran ≡ [] → a.master.launched ≡ m.launched
    → ((x : List ℕ) → count x a.master.outstanding ≤ count x m.outstanding) → Fine m a
nothing m a offered took ran launched fewer = record {
  offered = offered;
  moved = λ x. (let none : count x a.took ≡ 0 = ap (count x) took in omega (arith, none, fewer x));
  launched = launched ∙ sym (append-nil m.launched) ∙ ap (λ (l : List TaskInfo). m.launched ++ ids_of l) (sym ran);
  once = λ once. subst (λ (l : List TaskInfo). Once (m.launched ++ ids_of l)) (sym ran) (subst Once (sym (append-nil m.launched)) once);
}

module _ (c : Course) (k : Counted c) where
  answered : (a : MasterAnswer) (arrival : Arrival) → Fine c.world.master a → arrival.took ≡ a.took → arrival.ran ≡ a.ran
      → (d : Course) → d.world.master ≡ a.master → d.arrivals ≡ c.arrivals ++ arrival ∷ [] → Counted d
  answered a arrival f took ran d master arrivals = record {
    once = subst Once (sym (ap (λ (m : MasterState). m.offered) master ∙ f.offered)) k.once;
    took = λ x.
        let all : count x (all_took d.arrivals) ≡ count x (all_took c.arrivals) + count x a.took =
        ap (λ (l : List Arrival). count x (all_took l)) arrivals ∙ took-more c.arrivals arrival x ∙ ap (λ (l : List Offer). count x (all_took c.arrivals) + count x l) took in
        let left : count x d.world.master.outstanding ≡ count x a.master.outstanding = ap (λ (m : MasterState). count x m.outstanding) master in
        let same : times x d.world.master.offered ≡ times x c.world.master.offered = ap (times x) (ap (λ (m : MasterState). m.offered) master ∙ f.offered) in
        let moved : count x a.took + count x a.master.outstanding ≤ count x c.world.master.outstanding = f.moved x in
        omega (arith, all, left, same, moved, k.took x);
    ran = ap (λ (m : MasterState). m.launched) master
        ∙ f.launched
        ∙ (λ i. k.ran i ++ ids_of (sym ran i))
        ∙ sym (ap (λ (l : List Arrival). ids_of (all_ran l)) arrivals ∙ ran-more c.arrivals arrival);
    launched = subst Once (sym (ap (λ (m : MasterState). m.launched) master ∙ f.launched)) (f.once k.launched);
  }

pub counted-turn : (c d : Course) → Turn c d → Counted c → Counted d
counted-turn c d (skips e) k = subst Counted (sym e) (record { once = k.once; took = k.took; ran = k.ran; launched = k.launched })
counted-turn c d (offers list none e) k =
    subst Counted (sym e)
    (record {
      once = offered-once c.world.master.offered (offer_ids list) none k.once;
      took = λ x. omega (arith, k.took x, count-with x c.world.master.outstanding list, times-append x c.world.master.offered (offer_ids list));
      ran = k.ran;
      launched = k.launched;
    })
counted-turn c d (rescinds id e) k =
    subst Counted (sym e)
    (record {
      once = k.once;
      took = λ x. omega (arith, k.took x, count-filter x (λ (o : Offer). not (bytes_eq id.value (name_of o))) c.world.master.outstanding);
      ran = k.ran;
      launched = k.launched;
    })
counted-turn c d (reports status none e) k = subst Counted (sym e) (record { once = k.once; took = k.took; ran = k.ran; launched = k.launched })
counted-turn c d (tells_owing status key some e) k = subst Counted (sym e) (record { once = k.once; took = k.took; ran = k.ran; launched = k.launched })
counted-turn c d (resends index x there e) k = subst Counted (sym e) (record { once = k.once; took = k.took; ran = k.ran; launched = k.launched })
counted-turn c d (hears x events w e) k = subst Counted (sym e) (record { once = k.once; took = k.took; ran = k.ran; launched = k.launched })
counted-turn c d (wishes call stream current said e) k = subst Counted (sym e) (record { once = k.once; took = k.took; ran = k.ran; launched = k.launched })
counted-turn c d (refuses index p status there none is e) k =
    subst Counted (sym e)
    (answered c k (plain status c.world.master) (arrival_of index p (plain status c.world.master)) (nothing c.world.master (plain status c.world.master) refl refl refl refl (λ x. omega arith)) refl refl _ refl refl)
counted-turn c d (opens index p uuid uuids there call up e) k =
    subst Counted (sym e)
    (answered c k (subscribed c.world.master (uuid ∷ uuids)) (arrival_of index p (subscribed c.world.master (uuid ∷ uuids)))
    (nothing c.world.master (subscribed c.world.master (uuid ∷ uuids)) refl refl refl refl (λ x. omega arith)) refl refl _ refl refl)
counted-turn c d (carries index p there o e) k =
    subst Counted (sym e)
    (answered c k (carried_out c.world.master p.call) (arrival_of index p (carried_out c.world.master p.call))
    (subst (Fine c.world.master) (carried c.world.master p.call (Some p.stream) o) (fine c.world.master p.call (Some p.stream))) refl refl _ refl refl)
counted-turn c d (resubscribes uuid uuids up e) k =
    subst Counted (sym e) (record { once = k.once; took = λ x. omega (arith, k.took x); ran = k.ran; launched = k.launched })

counted-leads : (c d : Course) (list : List Move) → Leads c list d → Counted c → Counted d
counted-leads c d [] e k = subst Counted (sym e) k
counted-leads c d (move ∷ list) l k = counted-leads l.0 d list l.2 (counted-turn c l.0 (turn c l.0 move l.1) k)

pub counted-begun : (framework : Id) (ids : List (List ℕ)) → Counted (begun framework ids)
counted-begun framework ids = record { once = λ x. omega arith; took = λ x. omega arith; ran = refl; launched = λ x. omega arith }

pub counted : (framework : Id) (ids : List (List ℕ)) (list : List Move) (c : Course) → IsCourse framework ids list c → Counted c
counted framework ids list c l =
    counted-leads (begun framework ids) c list l (counted-begun framework ids)

pub launched-once : (framework : Id) (ids : List (List ℕ)) (list : List Move) (c : Course) → IsCourse framework ids list c → LaunchedOnce c
launched-once framework ids list c l = (let k : Counted c = counted framework ids list c l in record { launched = k.ran; once = distinct c.world.master.launched k.launched })

pub taken-once : (framework : Id) (ids : List (List ℕ)) (list : List Move) (c : Course) → IsCourse framework ids list c → TakenOnce c
taken-once framework ids list c l =
    (let k : Counted c = counted framework ids list c l in
    distinct (offer_ids (all_took c.arrivals)) (λ x. omega (arith, k.took x, k.once x)))
