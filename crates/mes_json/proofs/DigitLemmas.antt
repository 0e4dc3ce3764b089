-- Runs of the reader over digits that leave a number in the same state (`KeepsOn`).
use Rattle.std.proofs.Common.{◌≡◌, ℕ, ◌+◌, ◌-◌, ◌<◌, ◌≤◌, ◌==◌, Bool, true, false, List, [], ◌∷◌, ◌++◌, length, take, drop, get_or, take-suc, add-one, Option, Some, None, option_and_then, refl, ap, sym, ◌∙◌, subst, arith, append_assoc, append-nil, ◌⊎◌, inl, inr}
use Rattle.std.proofs.lemmas.Bool.Decides.{nat_tests}
use Rattle.std.specs.List.{AllByRecursion}
use Rattle.mes_fixed.specs.Automaton.{nought, digit, letter_of, number_next}
use Rattle.mes_fixed.specs.declared.automaton.NumberState.{NumberState}
use Rattle.mes_json.specs.Machine as m
use Rattle.mes_json.specs.Machine.{Frame, State, run, on_digits}
use Rattle.mes_json.specs.Machine.State.{state}
use Rattle.mes_json.specs.Machine.Token.{digits}
use Rattle.mes_json.specs.Reader.{with_read, Fits, Keeps, RunsTo, IsDigit, KeepsOn, AtValue, part_after}
use Rattle.mes_json.specs.declared.limits.TheConstants.{MAX_NESTING}
use Rattle.mes_json.specs.declared.reader_state.ReaderState as at
use Rattle.mes_json.specs.declared.reader.Reader.{Reader}
use Rattle.mes_json.proofs.ReaderLemmas.{part}
use Rattle.mes_json.proofs.TakenLemmas.{runs_over, none_kept}

is_nought : (c : ℕ) → c == 48 ≡ true → letter_of c ≡ nought
is_nought c e = grind (arith, nat_tests)

is_other : (c : ℕ) → 48 ≤ c → c ≤ 57 → c == 48 ≡ false → letter_of c ≡ digit
is_other c least most e = grind (arith, nat_tests)

pub leads : (x : NumberState) (c : ℕ) → KeepsOn x → IsDigit c → number_next x (letter_of c) ≡ Some x
leads x c keeps is = by (c == 48) refl
  where
    by : (b : Bool) → c == 48 ≡ b → number_next x (letter_of c) ≡ Some x
    by true e = ap (number_next x) (is_nought c e) ∙ keeps.0
    by false e = ap (number_next x) (is_other c is.0 is.1 e) ∙ keeps.1

over_digits : (d : ℕ) (fs : List Frame) (x : NumberState) (b q : List ℕ) → KeepsOn x → AllByRecursion IsDigit q
    → run d (state fs (m.ReaderState.token (digits x b))) q ≡ Some (state fs (m.ReaderState.token (digits x (b ++ q))))
unfolding run
over_digits d fs x b [] keeps h = ap (λ (n : List ℕ). Some (state fs (m.ReaderState.token (digits x n)))) (sym (append-nil b))
over_digits d fs x b (c ∷ q) keeps h =
    ap (option_and_then (λ (next : State). run d next q)) (ap (on_digits fs x b c) (leads x c keeps h.0)) ∙ over_digits d fs x (b ++ c ∷ []) q keeps h.1
    ∙ ap (λ (n : List ℕ). Some (state fs (m.ReaderState.token (digits x n)))) (append_assoc b (c ∷ []) q)

-- the reader's run over the n digits of b from the offset `from` on
pub digits_taken : (old new : Reader) (x : NumberState) (b : List ℕ) (from n : ℕ) → Fits old → old.at ≡ at.TheVariants.Digits x → KeepsOn x → from ≤ length b
    → n ≤ length (take (length b - from) (drop from b)) → AllByRecursion IsDigit (take n (take (length b - from) (drop from b)))
    → Keeps old (take n (take (length b - from) (drop from b))) (at.TheVariants.Digits x) new → RunsTo old b from (from + n) new
digits_taken old new x b from n fits is_at continues_number within few all keeps =
    let there = at.TheVariants.Digits x in
    let q = take n (take (length b - from) (drop from b)) in
    runs_over old new there b from n fits is_at (λ start end last. refl) within few
    (λ (s : State) (h : AtValue old.nesting.items s). ap (λ (t : State). run MAX_NESTING (with_read there (part old) t) q) h.is
    ∙ over_digits MAX_NESTING h.frames x (part old) q continues_number all
    ∙ ap (λ (t : State). Some (with_read there (part old ++ q) t)) (sym h.is))
    keeps

pub digit_front_taken : (old new : Reader) (x : NumberState) (b : List ℕ) (from run n : ℕ) → Fits old → old.at ≡ at.TheVariants.Digits x → KeepsOn x → from ≤ length b
    → run ≤ length (take (length b - from) (drop from b)) → AllByRecursion IsDigit (take run (take (length b - from) (drop from b))) → (n ≡ run) ⊎ (n ≡ 0)
    → Keeps old (take n (take (length b - from) (drop from b))) (at.TheVariants.Digits x) new → RunsTo old b from (from + n) new
digit_front_taken old new x b from run n fits is_at continues_number within few all (inl whole) keeps =
    digits_taken old new x b from n fits is_at continues_number within (omega (arith, whole, few))
    (subst (λ (k : ℕ). AllByRecursion IsDigit (take k (take (length b - from) (drop from b)))) (sym whole) all) keeps
digit_front_taken old new x b from run n fits is_at continues_number within few all (inr none) keeps =
    none_kept old new (at.TheVariants.Digits x) b (take (length b - from) (drop from b)) from n none fits is_at within keeps

-- the state of a number after the bytes q and one more byte c
over_more : (x : NumberState) (q : List ℕ) (c : ℕ) → part_after x (q ++ c ∷ []) ≡ option_and_then (λ y. number_next y (letter_of c)) (part_after x q)
over_more x [] c = by (number_next x (letter_of c))
  where
    by : (o : Option NumberState) → option_and_then (λ y. part_after y []) o ≡ o
    by None = refl
    by (Some y) = refl
over_more x (b ∷ q) c = by (number_next x (letter_of b)) (λ y. over_more y q c)
  where
    by : (o : Option NumberState) → ((y : NumberState) → part_after y (q ++ c ∷ []) ≡ option_and_then (λ z. number_next z (letter_of c)) (part_after y q))
        → option_and_then (λ y. part_after y (q ++ c ∷ [])) o ≡ option_and_then (λ y. number_next y (letter_of c)) (option_and_then (λ y. part_after y q) o)
    by None h = refl
    by (Some y) h = h y

pub part_more : (x y z : NumberState) (b : List ℕ) (n : ℕ) → n < length b → part_after x (take n b) ≡ Some y → number_next y (letter_of (get_or b n 0)) ≡ Some z
    → part_after x (take (n + 1) b) ≡ Some z
part_more x y z b n inside is next =
    ap (λ (m : ℕ). part_after x (take m b)) (add-one n) ∙ ap (part_after x) (take-suc b n 0 inside)
    ∙ over_more x (take n b) (get_or b n 0) ∙ ap (option_and_then (λ y. number_next y (letter_of (get_or b n 0)))) is ∙ next
