-- Runs of the reader over the bytes of a number.
use Rattle.std.proofs.Common.{◌≡◌, ℕ, ◌+◌, ◌-◌, ◌<◌, ◌≤◌, List, [], ◌∷◌, ◌++◌, length, take, drop, Option, Some, None, option_map, option_and_then, refl, ap, sym, ◌∙◌, arith, append_assoc, append-nil, length-take, lt_irrefl}
use Rattle.std.proofs.Math.Seq.{take-add}
use Rattle.mes_fixed.specs.Automaton.{letter_of, number_next}
use Rattle.mes_fixed.specs.declared.automaton.NumberState.{NumberState}
use Rattle.mes_fixed.specs.declared.automaton.NumberState.TheVariants.{AtStart}
use Rattle.mes_json.specs.Machine as m
use Rattle.mes_json.specs.Machine.{Frame, State, step, run, kind_unless, on_value, on_digits}
use Rattle.mes_json.specs.Machine.State.{state}
use Rattle.mes_json.specs.Machine.Token.{digits}
use Rattle.mes_json.specs.Tape.{valued}
use Rattle.mes_json.specs.Reader.{state_view, part_after, AtValue, Fits, Begins, RunsTo}
use Rattle.mes_json.specs.declared.limits.TheConstants.{MAX_NESTING}
use Rattle.mes_json.specs.declared.reader_state.ReaderState as at
use Rattle.mes_json.specs.declared.reader.Reader.{Reader}
use Rattle.mes_json.proofs.RunLemmas.{run_on}
use Rattle.mes_json.proofs.ReaderLemmas.{due, view_at, form_at, covered_at, begun_fits, begun_view}
use Rattle.mes_json.proofs.TakenLemmas.{rest_is, within_rest, reached_over}

over_number : (d : ℕ) (fs : List Frame) (x y : NumberState) (b q : List ℕ) → part_after x q ≡ Some y
    → run d (state fs (m.ReaderState.token (digits x b))) q ≡ Some (state fs (m.ReaderState.token (digits y (b ++ q))))
unfolding run
over_number d fs x y b [] leads =
    ap (λ (n : List ℕ). Some (state fs (m.ReaderState.token (digits x n)))) (sym (append-nil b))
    ∙ ap (option_map (λ (z : NumberState). state fs (m.ReaderState.token (digits z (b ++ []))))) leads
over_number d fs x y b (c ∷ q) leads = by (number_next x (letter_of c)) refl leads (λ next. over_number d fs next y (b ++ c ∷ []) q)
  where
    by : (o : Option NumberState) → number_next x (letter_of c) ≡ o → option_and_then (λ next. part_after next q) o ≡ Some y
        → ((next : NumberState) → part_after next q ≡ Some y
        → run d (state fs (m.ReaderState.token (digits next (b ++ c ∷ [])))) q ≡ Some (state fs (m.ReaderState.token (digits y ((b ++ c ∷ []) ++ q)))))
        → option_and_then (λ (s : State). run d s q) (on_digits fs x b c (number_next x (letter_of c))) ≡ Some (state fs (m.ReaderState.token (digits y (b ++ c ∷ q))))
    by None e leads further = absurd (cc)
    by (Some next) e leads further =
        ap (λ (o : Option NumberState). option_and_then (λ (s : State). run d s q) (on_digits fs x b c o)) e ∙ further next leads
        ∙ ap (λ (n : List ℕ). Some (state fs (m.ReaderState.token (digits y n)))) (append_assoc b (c ∷ []) q)

from_value : (d : ℕ) (fs : List Frame) (y : NumberState) (q : List ℕ) → 0 < length q → part_after AtStart q ≡ Some y
    → run d (state fs m.ReaderState.value) q ≡ Some (state fs (m.ReaderState.token (digits y q)))
unfolding run
from_value d fs y [] some leads = absurd (lt_irrefl 0 some)
from_value d fs y (c ∷ q) some leads = by (number_next AtStart (letter_of c)) refl leads
  where
    by : (o : Option NumberState) → number_next AtStart (letter_of c) ≡ o → option_and_then (λ next. part_after next q) o ≡ Some y
        → option_and_then (λ (s : State). run d s q) (on_value d fs (kind_unless c (number_next AtStart (letter_of c)))) ≡ Some (state fs (m.ReaderState.token (digits y (c ∷ q))))
    by None e leads = absurd (cc)
    by (Some next) e leads =
        ap (λ (o : Option NumberState). option_and_then (λ (s : State). run d s q) (on_value d fs (kind_unless c o))) e ∙ over_number d fs next y (c ∷ []) q leads

some_taken : (n : ℕ) (xs : List ℕ) → 0 < n → n ≤ length xs → 0 < length (take n xs)
some_taken n xs some few = simp length-take (omega arith)

-- the reader's run over the n bytes of a number in b from the offset `from` on
pub number_taken : (old new : Reader) (y : NumberState) (b : List ℕ) (from n : ℕ) → Fits old → old.at ≡ at.TheVariants.Value → from ≤ length b
    → n ≤ length (take (length b - from) (drop from b)) → 0 < n → part_after AtStart (take n (take (length b - from) (drop from b))) ≡ Some y
    → Begins old (take n (take (length b - from) (drop from b))) (at.TheVariants.Digits y) new → RunsTo old b from (from + n) new
number_taken old new y b from n fits is_at within few some leads begins =
    let there = at.TheVariants.Digits y in
    let q = take n (take (length b - from) (drop from b)) in
    let value = at.TheVariants.Value in
    let h : AtValue old.nesting.items (due value old) = form_at old value is_at fits in
    let run_is : run MAX_NESTING (state_view old) q ≡ Some (state_view new) =
    ap (λ (s : State). run MAX_NESTING s q) (view_at old value is_at ∙ h.is) ∙ from_value MAX_NESTING h.frames y q (some_taken n _ some few) leads
    ∙ ap (λ (s : State). Some (valued (m.ReaderState.token (digits y q)) s)) (sym h.is) ∙ ap (λ (s : State). Some s) (sym (begun_view old new q there fits begins)) in
    record {
      forward = omega arith;
      inside = within_rest b from n within few;
      fits = begun_fits old new q there fits begins (covered_at old value is_at fits) h;
      runs = λ s e. ap (run MAX_NESTING s) (take-add from n b) ∙ run_on MAX_NESTING s (state_view old) (take from b) (take n (drop from b)) e
          ∙ ap (λ (x : List ℕ). run MAX_NESTING (state_view old) (take n x)) (sym (rest_is b from within)) ∙ run_is;
      reached = λ r. reached_over old new q r run_is;
    }
