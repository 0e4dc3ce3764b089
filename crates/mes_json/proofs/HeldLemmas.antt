-- Upper bounds of the text bytes and nodes of a state, by the bytes that lead to the state.
use Rattle.std.proofs.Common.{◌≡◌, ℕ, ◌+◌, ◌≤◌, Bool, List, [], ◌∷◌, length, Some, if◌then◌else◌, ◌==◌, refl, ap, sym, subst, arith, length-append, eqb-true}
use Rattle.std.proofs.lemmas.Bool.{cond_both}
use Rattle.mes_json.specs.Inner.{Stand, following, counts, inner_from, inner}
use Rattle.mes_json.specs.Inner.Stand.{outside}
use Rattle.mes_json.specs.Machine.{State, start, run}
use Rattle.mes_json.proofs.MeasureLemmas.{Measure, of_state}
use Rattle.mes_json.proofs.PaidLemmas.{Pays}
use Rattle.mes_json.proofs.PaidSteps.{spent, paid_run}

abbrev pub bytes : Measure
bytes = record { text = λ b. length b; mark = 0 }

abbrev pub nodes : Measure
nodes = record { text = λ b. 1; mark = 1 }

abbrev each : Stand → ℕ → ℕ
each place c = 1

bytes_pay : Pays bytes counts
bytes_pay = record {
  none = omega arith;
  one = λ c. omega arith;
  more = λ s t. omega (arith, length-append s t);
  mark = λ c. omega arith;
  in_number = λ c is. subst (λ (x : Bool). 1 ≤ (if x then 1 else 0)) (sym is) (omega arith);
  in_string = λ c n. cond_both (c == 34) 0 1 (λ x. 1 ≤ x) (λ e. absurd (n (eqb-true c 34 e))) (λ _. omega arith);
  in_escape = λ c. omega arith;
}

nodes_pay : Pays nodes each
nodes_pay = record {
  none = omega arith;
  one = λ c. omega arith;
  more = λ s t. omega arith;
  mark = λ c. omega arith;
  in_number = λ c is. omega arith;
  in_string = λ c n. omega arith;
  in_escape = λ c. omega arith;
}

inner_spent : (place : Stand) (p : List ℕ) → spent counts place p ≡ inner_from place p
inner_spent place [] = refl
inner_spent place (c ∷ p) = ap (λ (n : ℕ). counts place c + n) (inner_spent (following place c) p)

each_spent : (place : Stand) (p : List ℕ) → spent each place p ≡ length p
each_spent place [] = refl
each_spent place (c ∷ p) = omega (arith, each_spent (following place c) p)

pub bytes_paid : (d : ℕ) (s : State) (p : List ℕ) → run d start p ≡ Some s → of_state bytes s ≤ inner p
bytes_paid d s p e = omega (arith, paid_run bytes counts d s p bytes_pay e, inner_spent outside p)

pub nodes_paid : (d : ℕ) (s : State) (p : List ℕ) → run d start p ≡ Some s → of_state nodes s ≤ length p
nodes_paid d s p e = omega (arith, paid_run nodes each d s p nodes_pay e, each_spent outside p)
