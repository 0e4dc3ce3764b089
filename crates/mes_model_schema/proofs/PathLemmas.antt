-- Lemmas about the steps of a path: adding a step, and the text of the path.
use Rattle.std.proofs.Common.{◌≡◌, ℕ, zero, suc, ◌+◌, ◌<◌, ◌≤◌, ◌^◌, List, ◌∷◌, [], ◌++◌, length, map, get_or, set, take, drop, codes, decimal, ◌∙◌, ap, append_assoc, arith, subst, drop-cons, add-one, length-append, lit<}
use Rattle.std.specs.List.{flat_map, All}
use Rattle.std.proofs.lemmas.List.{get_or-map, length-map, map-append, length-take-le, take_more_set}
use Rattle.std.proofs.lemmas.List.Elements.{All-append}
use Rattle.std.proofs.lemmas.Fmt.{length-decimal-le}
use Rattle.mes_model_schema.specs.Paths.{Place, IsPlace, IsPath, step_text, first_text, path_text}
use Rattle.mes_model_schema.specs.Paths.Place.{name, index}
use Rattle.mes_model_schema.specs.Steps.{place_of}
use Rattle.mes_model_schema.specs.declared.path.Step.{Step}

-- a path with fewer than 16 steps has room for one more
pub room_left : (steps : List Step) (n : ℕ) (at : List Place) → length steps ≡ 16 → n ≤ 16 → map place_of (take n steps) ≡ at → length at < 16 → n < 16
room_left steps n at whole fits is less = omega (arith, ap length is, length-map (take n steps) place_of, length-take-le n steps (omega arith))

pub steps_more : (steps : List Step) (n : ℕ) (step : Step) (at : List Place) → n < length steps → map place_of (take n steps) ≡ at
    → map place_of (take (n + 1) (set steps n step)) ≡ at ++ place_of step ∷ []
steps_more steps n step at inside is = rw (take_more_set, ← is) (map-append place_of (take n steps) (step ∷ []))

all_one : (p : Place) → IsPlace p → All IsPlace (p ∷ [])
all_one p place zero d inside = place
all_one p place (suc i) d inside = absurd (omega arith)

pub path_more : (at : List Place) (p : Place) → length at < 16 → IsPath at → IsPlace p → IsPath (at ++ p ∷ [])
path_more at p less path place = record {
  few = omega (arith, length-append at (p ∷ []));
  each = All-append IsPlace at (p ∷ []) path.each (all_one p place);
}

-- the steps after the first are valid places
pub place_at : (items : List Step) (first : Step) (rest : List Step) (k : ℕ) (d : Step) → All IsPlace (map place_of items) → items ≡ first ∷ rest → k < length rest → IsPlace (place_of (get_or rest k d))
place_at items first rest k d all is lt =
    let each : All IsPlace (map place_of (first ∷ rest)) = subst (λ (xs : List Step). All IsPlace (map place_of xs)) is all in
    subst IsPlace (get_or-map place_of rest k d (place_of d) lt) (each (suc k) (place_of d) (omega (arith, lt, length-map rest place_of)))

pub first_place : (items : List Step) (first : Step) (rest : List Step) → All IsPlace (map place_of items) → items ≡ first ∷ rest → IsPlace (place_of first)
first_place items first rest all is =
    let each : All IsPlace (map place_of (first ∷ rest)) = subst (λ (xs : List Step). All IsPlace (map place_of xs)) is all in
    each zero (place_of first) (omega arith)

-- the text of a path is the text of the first step, followed by the texts of the other steps
pub path_text_first : (at : List Place) (items : List Step) (first : Step) (rest : List Step) → at ≡ map place_of items → items ≡ first ∷ rest → path_text at ≡ first_text (place_of first) ++ flat_map step_text (map place_of rest)
path_text_first at items first rest shows is = rw (shows, is)

pub written_more : (text path : List ℕ) (ss : List Step) (k : ℕ) (d : Step) → k < length ss → text ++ flat_map step_text (map place_of (drop k ss)) ≡ path
    → (text ++ step_text (place_of (get_or ss k d))) ++ flat_map step_text (map place_of (drop (k + 1) ss)) ≡ path
written_more text path ss k d lt h =
    let split : drop k ss ≡ get_or ss k d ∷ drop (k + 1) ss = rw add-one (drop-cons ss k d lt) in
    append_assoc text (step_text (place_of (get_or ss k d))) (flat_map step_text (map place_of (drop (k + 1) ss)))
    ∙ rw split at h

length-index : (i : ℕ) → i < 2 ^ 64 → length (step_text (index i)) ≤ 22
length-index i small =
    let digits : length (decimal i) ≤ 20 = length-decimal-le 20 i (lit< tt) (omega arith) small in
    omega (arith, digits, length-append (codes "[" ++ decimal i) (codes "]"), length-append (codes "[") (decimal i))

pub length-first_text : (p : Place) → IsPlace p → length (first_text p) ≤ 31
length-first_text (name n) short = short.1
length-first_text (index i) small = omega (arith, length-index i small)

length-step_text : (p : Place) → IsPlace p → length (step_text p) ≤ 32
length-step_text (name n) short = omega (arith, short, length-append (codes ".") n)
length-step_text (index i) small = omega (arith, length-index i small)

pub length-more : (old new : List ℕ) (p : Place) → new ≡ old ++ step_text p → IsPlace p → length new ≤ length old + 32
length-more old new p is place = rw (is, length-append) (omega (arith, length-step_text p place))
