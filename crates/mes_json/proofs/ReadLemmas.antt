-- The error or the tree of bytes over which the state machine stops or ends.
use Rattle.std.proofs.Common.{◌≡◌, ℕ, ◌+◌, ◌<◌, List, [], ◌∷◌, ◌++◌, length, get_or, take, Option, Some, None, option_map, refl, ap, sym, ◌∙◌, subst, add-one}
use Rattle.mes_json.specs.Tree.{Tree}
use Rattle.mes_json.specs.Grammar.{IsText}
use Rattle.mes_json.specs.Machine.{State, start, run, finish}
use Rattle.mes_json.specs.Place.{Begins, IsFault, IsReadFault}
use Rattle.mes_json.specs.Reader.{IsWhole, Stops}
use Rattle.mes_json.specs.Read.{fault_at, Stuck, StopsIn}
use Rattle.mes_json.specs.Tokens.{Token, tokens}
use Rattle.mes_json.specs.declared.limits.TheConstants.{MAX_NESTING}
use Rattle.mes_json.specs.declared.fault.TextFault.{TextFault}
use Rattle.mes_json.specs.declared.fault.TextFaultKind.TheVariants.{End}
use Rattle.mes_json.specs.declared.fault.ReadFault as fault
use Rattle.mes_json.specs.declared.push_error.PushError.{PushError}
use Rattle.mes_json.specs.declared.push_error.PushError.TheVariants.{Refused, NoMemory}
use Rattle.mes_json.proofs.RunLemmas.{run_take}
use Rattle.mes_json.proofs.ViableLemmas.{begins_from_run}
use Rattle.mes_json.proofs.PlaceLemmas.{refused, ended, finished, finished_only, no_text, no_text_ended}

pub stops_at : (s next : State) (b : List ℕ) (n : ℕ) (stop : PushError) (e : fault.ReadFault) → e ≡ fault_at n stop → n < length b → run MAX_NESTING s (take n b) ≡ Some next
    → Stops stop next (get_or b n 0) → StopsIn s b e
stops_at s next b n (Refused why) e is inside reached stops =
    subst (λ (x : fault.ReadFault). StopsIn s b x) (sym is) (record { inside = inside; before = next; reached = reached; refuses = stops })
stops_at s next b n NoMemory e is inside reached stops =
    subst (λ (x : fault.ReadFault). StopsIn s b x) (sym is)
    (n, record { inside = inside; next = stops.0; reached = run_take MAX_NESTING s next b n inside reached ∙ stops.1 })

pub stuck_fault : (b : List ℕ) (f : TextFault) → Stuck start b f → IsFault MAX_NESTING b f
stuck_fault b f stuck = refused MAX_NESTING b f.byte stuck.before f.why stuck.inside stuck.reached stuck.refuses

pub stuck_no_text : (b : List ℕ) (f : TextFault) → Stuck start b f → (t : Tree) → IsText MAX_NESTING b t → ⊥
stuck_no_text b f stuck t h = no_text MAX_NESTING b f.byte stuck.before stuck.inside stuck.reached stuck.refuses.stuck t h

-- if a text begins with some first bytes, it begins with the first one
first_begins : (b : List ℕ) (n : ℕ) → Begins MAX_NESTING (take (n + 1) b) → Begins MAX_NESTING (take 1 b)
first_begins [] n (q, t, h) = (q, t, subst (λ (p : List ℕ). IsText MAX_NESTING (p ++ q) t) (ap (λ (m : ℕ). take {A = ℕ} m []) (add-one n)) h)
first_begins (c ∷ rest) n (q, t, h) = (take n rest ++ q, t, subst (λ (p : List ℕ). IsText MAX_NESTING (p ++ q) t) (ap (λ (m : ℕ). take m (c ∷ rest)) (add-one n)) h)

pub text_first : (b : List ℕ) (t : Tree) → IsText MAX_NESTING b t → Begins MAX_NESTING (take 1 b)
text_first [] t h = ([], t, h)
text_first (c ∷ rest) t h = (rest, t, h)

pub whole_first : (b : List ℕ) (s : State) → run MAX_NESTING start b ≡ Some s → IsWhole s → Begins MAX_NESTING (take 1 b)
whole_first b s reached whole = text_first b whole.0 (finished MAX_NESTING b s whole.0 reached whole.1)

pub stopped_fault : (b : List ℕ) (e : fault.ReadFault) → StopsIn start b e → IsReadFault MAX_NESTING b e
stopped_fault b (fault.TheVariants.Text f) stops = stuck_fault b f stops
stopped_fault b fault.TheVariants.NoMemory stops = first_begins b stops.0 (begins_from_run MAX_NESTING stops.1.next (take (stops.0 + 1) b) stops.1.reached)

pub stopped_only : (b : List ℕ) (e : fault.ReadFault) → StopsIn start b e → (t : Tree) → IsText MAX_NESTING b t → e ≡ fault.TheVariants.NoMemory
stopped_only b (fault.TheVariants.Text f) stops t h = absurd (stuck_no_text b f stops t h)
stopped_only b fault.TheVariants.NoMemory stops t h = refl

pub tape_read : (b : List ℕ) (s : State) (found : Option (List Token)) (tape : List Token) → run MAX_NESTING start b ≡ Some s → found ≡ option_map tokens (finish s)
    → found ≡ Some tape → (t : Tree) × IsText MAX_NESTING b t × (tape ≡ tokens t)
tape_read b s found tape reached is some = by (finish s) refl is
  where
    by : (o : Option Tree) → finish s ≡ o → found ≡ option_map tokens o → (t : Tree) × IsText MAX_NESTING b t × (tape ≡ tokens t)
    by None finds e = cc
    by (Some t) finds e = (t, finished MAX_NESTING b s t reached finds, cc)

pub tape_only : (b : List ℕ) (s : State) (found : Option (List Token)) (tape : List Token) → run MAX_NESTING start b ≡ Some s → found ≡ option_map tokens (finish s)
    → found ≡ Some tape → (t : Tree) → IsText MAX_NESTING b t → tape ≡ tokens t
tape_only b s found tape reached is some t h =
    let both : Some tape ≡ Some (tokens t) = sym some ∙ is ∙ ap (option_map tokens) (finished_only MAX_NESTING b s t reached h) in cc

nothing_finished : (s : State) (found : Option (List Token)) → found ≡ option_map tokens (finish s) → (let none : Option (List Token) = None in found ≡ none)
    → (let none : Option Tree = None in finish s ≡ none)
nothing_finished s found is none = by (finish s) is
  where
    by : (o : Option Tree) → found ≡ option_map tokens o → (let none : Option Tree = None in o ≡ none)
    by None e = refl
    by (Some t) e = cc

pub ended_no_text : (b : List ℕ) (s : State) (found : Option (List Token)) → run MAX_NESTING start b ≡ Some s → found ≡ option_map tokens (finish s)
    → (let none : Option (List Token) = None in found ≡ none) → (t : Tree) → IsText MAX_NESTING b t → ⊥
ended_no_text b s found reached is none t h = no_text_ended MAX_NESTING b s reached (nothing_finished s found is none) t h

pub ended_fault : (b : List ℕ) (s : State) (found : Option (List Token)) → run MAX_NESTING start b ≡ Some s → found ≡ option_map tokens (finish s)
    → (let none : Option (List Token) = None in found ≡ none) → IsFault MAX_NESTING b (record { byte = length b; why = End })
ended_fault b s found reached is none = ended MAX_NESTING b s reached (nothing_finished s found is none)

-- a stop from the state s is a stop from the start state, if s is the start state
pub stopped_at_start : (s : State) (b : List ℕ) (e : fault.ReadFault) → s ≡ start → StopsIn s b e → StopsIn start b e
stopped_at_start s b e is stops = subst (λ (x : State). StopsIn x b e) is stops

pub ran_from_start : (s : State) (b : List ℕ) (next : State) → s ≡ start → run MAX_NESTING s b ≡ Some next → run MAX_NESTING start b ≡ Some next
ran_from_start s b next is runs = subst (λ (x : State). run MAX_NESTING x b ≡ Some next) is runs
