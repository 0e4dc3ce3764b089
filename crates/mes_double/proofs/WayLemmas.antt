-- The calls in transit after one more call is sent, and after a call arrives.
use Rattle.std.proofs.Common.{◌≡◌, ℕ, zero, suc, ◌+◌, ◌<◌, Bool, true, false, ◌||◌, ◌&&◌, not, ◌==◌, length, slice_get, List, [], ◌∷◌, ◌++◌, Some, refl, sym, ap, ◌∙◌, arith}
use Rattle.std.specs.List.{list_any}
use Rattle.std.proofs.lemmas.Bool.{eq-eqb, ne_eqb}
use Rattle.std.proofs.lemmas.List.Folds.{list_any-append}
use Rattle.mes_double.specs.declared.sent.Sent.{Sent}
use Rattle.mes_double.specs.Courses.{Arrival}
use Rattle.mes_double.specs.Promises.{has_arrived, on_the_way}
use Rattle.mes_double.proofs.ListLemmas.{or-swap, or-three, or-none}

pub arrived-more : (arrivals : List Arrival) (a : Arrival) (j : ℕ) → has_arrived (arrivals ++ a ∷ []) j ≡ (has_arrived arrivals j || (a.index == j))
arrived-more arrivals a j = list_any-append (λ (b : Arrival). b.index == j) arrivals (a ∷ []) ∙ ap (λ (b : Bool). has_arrived arrivals j || b) (or-none (a.index == j))

pub arrived-here : (arrivals : List Arrival) (a : Arrival) (j : ℕ) → a.index ≡ j → has_arrived (arrivals ++ a ∷ []) j ≡ true
arrived-here arrivals a j e = arrived-more arrivals a j ∙ ap (λ (b : Bool). has_arrived arrivals j || b) (eq-eqb a.index j e) ∙ or-swap (has_arrived arrivals j) true

pub arrived-other : (arrivals : List Arrival) (a : Arrival) (j : ℕ) → (a.index ≡ j → ⊥) → has_arrived (arrivals ++ a ∷ []) j ≡ has_arrived arrivals j
arrived-other arrivals a j e = arrived-more arrivals a j ∙ ap (λ (b : Bool). has_arrived arrivals j || b) (ne_eqb a.index j e) ∙ or-none (has_arrived arrivals j)

module _ (test : Sent → Bool) where
  abbrev pub any_way : List Arrival → ℕ → List Sent → Bool
  any_way arrivals at ps = list_any test (on_the_way arrivals at ps)

  way-cons : (arrivals : List Arrival) (at : ℕ) (p : Sent) (ps : List Sent) → any_way arrivals at (p ∷ ps) ≡ ((not (has_arrived arrivals at) && test p) || any_way arrivals (suc at) ps)
  way-cons arrivals at p ps = by (has_arrived arrivals at) refl
    where
      by : (b : Bool) → has_arrived arrivals at ≡ b → any_way arrivals at (p ∷ ps) ≡ ((not (has_arrived arrivals at) && test p) || any_way arrivals (suc at) ps)
      by true e = rw e refl
      by false e = rw e refl

  pub way-none : (arrivals : List Arrival) (at : ℕ) (ps : List Sent) → ((i : ℕ) (p : Sent) → slice_get ps i ≡ Some p → test p ≡ false) → any_way arrivals at ps ≡ false
  way-none arrivals at [] none = refl
  way-none arrivals at (p ∷ ps) none =
      way-cons arrivals at p ps
      ∙ (λ i. (not (has_arrived arrivals at) && none 0 p refl i) || way-none arrivals (suc at) ps (λ j q e. none (suc j) q e) i)
      ∙ ends (not (has_arrived arrivals at))
    where
      ends : (b : Bool) → ((b && false) || false) ≡ false
      ends true = refl
      ends false = refl

  pub way-sent : (arrivals : List Arrival) (at : ℕ) (ps : List Sent) (p : Sent) (n : ℕ) → n ≡ at + length ps → has_arrived arrivals n ≡ false
      → any_way arrivals at (ps ++ p ∷ []) ≡ (any_way arrivals at ps || test p)
  way-sent arrivals at [] p n is free =
      let here : has_arrived arrivals at ≡ false = ap (has_arrived arrivals) (let e : at ≡ n = omega (arith, is) in e) ∙ free in
      way-cons arrivals at p [] ∙ ap (λ (b : Bool). (not b && test p) || false) here ∙ or-none (test p)
  way-sent arrivals at (q ∷ ps) p n is free =
      way-cons arrivals at q (ps ++ p ∷ [])
      ∙ ap (λ (b : Bool). (not (has_arrived arrivals at) && test q) || b) (way-sent arrivals (suc at) ps p n (omega (arith, is)) free)
      ∙ sym (or-three (not (has_arrived arrivals at) && test q) (any_way arrivals (suc at) ps) (test p))
      ∙ ap (λ (b : Bool). b || test p) (sym (way-cons arrivals at q ps))

  module _ (arrivals : List Arrival) (a : Arrival) where
    way-following : (at : ℕ) (ps : List Sent) → a.index < at → any_way (arrivals ++ a ∷ []) at ps ≡ any_way arrivals at ps
    way-following at [] less = refl
    way-following at (p ∷ ps) less =
        way-cons (arrivals ++ a ∷ []) at p ps
        ∙ (λ i. (not (arrived-other arrivals a at (λ e. omega arith) i) && test p) || way-following (suc at) ps (omega arith) i)
        ∙ sym (way-cons arrivals at p ps)

    -- the calls in transit after a call arrives, for the first time or again
    pub way-arrives : (at : ℕ) (ps : List Sent) (k : ℕ) (p : Sent) → slice_get ps k ≡ Some p → a.index ≡ at + k
        → (any_way (arrivals ++ a ∷ []) at ps || (not (has_arrived arrivals a.index) && test p)) ≡ any_way arrivals at ps
    way-arrives at [] k p there is = absurd (cc)
    way-arrives at (q ∷ ps) zero p there is =
        let here : a.index ≡ at = omega (arith, is) in
        let same : q ≡ p = (let e : Some q ≡ Some p = there in cc) in
        let rest : any_way (arrivals ++ a ∷ []) (suc at) ps ≡ any_way arrivals (suc at) ps = way-following (suc at) ps (omega (arith, here)) in
        (λ i. way-cons (arrivals ++ a ∷ []) at q ps i || (not (has_arrived arrivals (here i)) && test (sym same i)))
        ∙ (λ i. ((not (arrived-here arrivals a at here i) && test q) || rest i) || (not (has_arrived arrivals at) && test q))
        ∙ or-swap (any_way arrivals (suc at) ps) (not (has_arrived arrivals at) && test q)
        ∙ sym (way-cons arrivals at q ps)
    way-arrives at (q ∷ ps) (suc k) p there is =
        let last : Bool = not (has_arrived arrivals a.index) && test p in
        let rest : (any_way (arrivals ++ a ∷ []) (suc at) ps || last) ≡ any_way arrivals (suc at) ps = way-arrives (suc at) ps k p there (omega (arith, is)) in
        (λ i. way-cons (arrivals ++ a ∷ []) at q ps i || last)
        ∙ (λ i. ((not (arrived-other arrivals a at (λ e. omega (arith, is, e)) i) && test q) || any_way (arrivals ++ a ∷ []) (suc at) ps) || last)
        ∙ or-three (not (has_arrived arrivals at) && test q) (any_way (arrivals ++ a ∷ []) (suc at) ps) last
        ∙ ap (λ (b : Bool). (not (has_arrived arrivals at) && test q) || b) rest
        ∙ sym (way-cons arrivals at q ps)
