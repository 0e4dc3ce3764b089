-- No JSON text continues at the byte that the state machine refuses: offset and reason of a fault.
use Rattle.std.proofs.Common.{◌≡◌, ℕ, ◌+◌, ◌<◌, ◌≤◌, List, [], ◌++◌, length, get_or, take, drop, Some, None, option_and_then, refl, ap, sym, ◌∙◌, subst, arith, take-take, take-append-drop}
use Rattle.std.proofs.Math.Seq.{take-length}
use Rattle.mes_json.specs.Tree.{Tree}
use Rattle.mes_json.specs.Grammar.{IsText}
use Rattle.mes_json.specs.Place.{Begins, IsReason, IsFault}
use Rattle.mes_json.specs.Refusal.{IsRefusal, Refuses}
use Rattle.mes_json.specs.Machine.{State, start, step, run, finish}
use Rattle.std.proofs.lemmas.Bool.{cases_lt}
use Rattle.std.proofs.Common.{inl, inr}
use Rattle.mes_json.specs.declared.fault.TextFault.{TextFault}
use Rattle.mes_json.specs.declared.fault.TextFaultKind.{TextFaultKind}
use Rattle.mes_json.specs.declared.fault.TextFaultKind.TheVariants.{End, Depth, Byte}
use Rattle.mes_json.proofs.RunLemmas.{run_none, run_take}
use Rattle.mes_json.proofs.SoundLemmas.{none_some}
use Rattle.mes_json.proofs.CompleteLemmas.{complete_text}
use Rattle.mes_json.proofs.ViableLemmas.{begins_from_run, none_begins, run_deeper}
pub use Rattle.mes_json.proofs.StepLemmas.{finished}

further_in : (b : List ℕ) (n m : ℕ) → n < m → take (n + 1) b ++ drop (n + 1) (take m b) ≡ take m b
further_in b n m l =
    let k : n + 1 ≤ m = omega arith in
    ap (λ (x : List ℕ). x ++ drop (n + 1) (take m b)) (sym (take-take (n + 1) m b k)) ∙ take-append-drop (n + 1) (take m b)

stuck_after : (d : ℕ) (b : List ℕ) (n m : ℕ) (s : State) → n < length b → run d start (take n b) ≡ Some s → step d s (get_or b n 0) ≡ None → n < m → run d start (take m b) ≡ None
stuck_after d b n m s l e f k =
    ap (run d start) (sym (further_in b n m k)) ∙ run_none d start (take (n + 1) b) (drop (n + 1) (take m b)) (run_take d start s b n l e ∙ f)

reason : (d : ℕ) (b : List ℕ) (n : ℕ) (s : State) (why : TextFaultKind) → n < length b → run d start (take n b) ≡ Some s → IsRefusal d why s (get_or b n 0) → IsReason d b n why
reason d b n s End l e h = absurd h
reason d b n s Depth l e h = (l, begins_from_run (d + 1) h.0 (take (n + 1) b) (run_take (d + 1) start s b n l (run_deeper d start s (take n b) e) ∙ h.1))
reason d b n s Byte l e h = (l, none_begins (d + 1) (take (n + 1) b) (run_take (d + 1) start s b n l (run_deeper d start s (take n b) e) ∙ h))

pub finished_only : (d : ℕ) (b : List ℕ) (s : State) (t : Tree) → run d start b ≡ Some s → IsText d b t → finish s ≡ Some t
finished_only d b s t e h = sym (ap (option_and_then finish) e) ∙ complete_text d b t h

pub no_text : (d : ℕ) (b : List ℕ) (n : ℕ) (s : State) → n < length b → run d start (take n b) ≡ Some s → step d s (get_or b n 0) ≡ None → (t : Tree) → IsText d b t → ⊥
no_text d b n s l e stuck t h =
    let f : run d start (take (length b) b) ≡ None = stuck_after d b n (length b) s l e stuck l in
    let g : run d start b ≡ None = ap (run d start) (sym (take-length b)) ∙ f in
    none_some (sym (ap (option_and_then finish) g) ∙ complete_text d b t h)

pub no_text_ended : (d : ℕ) (b : List ℕ) (s : State) → run d start b ≡ Some s → finish s ≡ None → (t : Tree) → IsText d b t → ⊥
no_text_ended d b s e f t h = none_some (sym f ∙ finished_only d b s t e h)

pub refused : (d : ℕ) (b : List ℕ) (n : ℕ) (s : State) (why : TextFaultKind) → n < length b → run d start (take n b) ≡ Some s → Refuses d why s (get_or b n 0) → IsFault d b (record { byte = n; why = why })
refused d b n s why l e h = record {
  no_text = no_text d b n s l e h.stuck;
  begins = begins_from_run d s (take n b) e;
  longest = λ m k _. none_begins d (take m b) (stuck_after d b n m s l e h.stuck k);
  reason = reason d b n s why l e h.reason;
}

pub ended : (d : ℕ) (b : List ℕ) (s : State) → run d start b ≡ Some s → finish s ≡ None → IsFault d b (record { byte = length b; why = End })
ended d b s e f = record {
  no_text = no_text_ended d b s e f;
  begins = subst (Begins d) (sym (take-length b)) (begins_from_run d s b e);
  longest = λ m k l _. omega arith;
  reason = refl;
}

pub empty_fault : (d : ℕ) → IsFault d [] (record { byte = 0; why = End })
unfolding run
empty_fault d = ended d [] start refl refl

pub place_within : (d : ℕ) (b : List ℕ) (n : ℕ) (why : TextFaultKind) → IsReason d b n why → n ≤ length b
place_within d b n End reason = omega (arith, reason)
place_within d b n Depth reason = omega (arith, reason.0)
place_within d b n Byte reason = omega (arith, reason.0)

same_place : (d : ℕ) (b : List ℕ) (f g : TextFault) → IsFault d b f → IsFault d b g → f.byte ≡ g.byte
same_place d b f g is other = elim (cases_lt f.byte g.byte) [
  | inl less ↦ absurd (is.longest g.byte less (place_within d b g.byte g.why other.reason) other.begins)
  | inr more ↦ elim (cases_lt g.byte f.byte) [
    | inl less ↦ absurd (other.longest f.byte less (place_within d b f.byte f.why is.reason) is.begins)
    | inr least ↦ omega (arith, more, least)
  ]
]

same_reason : (d : ℕ) (b : List ℕ) (n : ℕ) (why other : TextFaultKind) → IsReason d b n why → IsReason d b n other → why ≡ other
same_reason d b n End End is at = refl
same_reason d b n End Depth is at = absurd (omega (arith, is, at.0))
same_reason d b n End Byte is at = absurd (omega (arith, is, at.0))
same_reason d b n Depth End is at = absurd (omega (arith, is.0, at))
same_reason d b n Depth Depth is at = refl
same_reason d b n Depth Byte is at = absurd (at.1 is.1)
same_reason d b n Byte End is at = absurd (omega (arith, is.0, at))
same_reason d b n Byte Depth is at = absurd (is.1 at.1)
same_reason d b n Byte Byte is at = refl

-- two faults of the same bytes are equal
pub one_fault : (d : ℕ) (b : List ℕ) (f g : TextFault) → IsFault d b f → IsFault d b g → f ≡ g
one_fault d b f g is other =
    let place = same_place d b f g is other in
    let why = same_reason d b f.byte f.why g.why is.reason (subst (λ (n : ℕ). IsReason d b n g.why) (sym place) other.reason) in
    rw (place, why) refl
