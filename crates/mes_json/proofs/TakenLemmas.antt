-- Runs of the reader over bytes that leave the reader's state unchanged, apart from the text.
use Rattle.std.proofs.Common.{◌≡◌, ℕ, ◌+◌, ◌-◌, ◌<◌, ◌≤◌, List, [], ◌∷◌, ◌++◌, length, take, drop, get_or, Some, refl, ap, sym, ◌∙◌, subst, arith, append-nil, length-drop}
use Rattle.std.proofs.lemmas.Grind.{common_steps}
use Rattle.std.proofs.Math.Seq.{take-add}
use Rattle.mes_json.specs.Machine.{State, start, step, run}
use Rattle.mes_json.specs.Reader.{with_read, state_view, IsAt, Fits, Reached, Keeps, Stays, RunsTo}
use Rattle.mes_json.specs.declared.limits.TheConstants.{MAX_NESTING}
use Rattle.mes_json.specs.declared.nesting.Open.{Open}
use Rattle.mes_json.specs.declared.reader_state.ReaderState as at
use Rattle.mes_json.specs.declared.reader.Reader.{Reader}
use Rattle.mes_json.proofs.RunLemmas.{run_on, run_one, run_take}
use Rattle.mes_json.proofs.ReaderLemmas.{due, part, view_at, form_at, SameText, kept_fits, kept_view}

-- after the bytes b of a string or number, the bytes q leave the reader's state a and add `made`
abbrev pub Adds : at.ReaderState → List Open → List ℕ → List ℕ → List ℕ → Type 0
Adds there n b q made = (s : State) → IsAt there n s → run MAX_NESTING (with_read there b s) q ≡ Some (with_read there (b ++ made) s)

abbrev pub Leaves : at.ReaderState → List Open → List ℕ → List ℕ → Type 0
Leaves there n b q = Adds there n b q q

over : (old new : Reader) (there : at.ReaderState) (q made : List ℕ) → Fits old → old.at ≡ there → Adds there old.nesting.items (part old) q made → Keeps old made there new
    → run MAX_NESTING (state_view old) q ≡ Some (state_view new)
over old new there q made fits is_at adds keeps =
    ap (λ (s : State). run MAX_NESTING s q) (view_at old there is_at)
    ∙ adds (due there old) (form_at old there is_at fits)
    ∙ ap (λ (s : State). Some s) (sym (kept_view old new made there there fits (λ s. refl) keeps))

pub reached_over : (old new : Reader) (q : List ℕ) → Reached old → run MAX_NESTING (state_view old) q ≡ Some (state_view new) → Reached new
reached_over old new q reached runs = (reached.0 ++ q, run_on MAX_NESTING start (state_view old) reached.0 q reached.1 ∙ runs)

pub nothing_taken : (r : Reader) (b : List ℕ) (from : ℕ) → Fits r → from ≤ length b → RunsTo r b from from r
nothing_taken r b from fits within = record { forward = omega arith; inside = within; fits = fits; runs = λ s e. e; reached = λ r. r }

pub stays_taken : (old new : Reader) (b : List ℕ) (from : ℕ) → Fits old → from ≤ length b → Stays old new → RunsTo old b from from new
stays_taken old new b from fits within h =
    let same : state_view new ≡ state_view old = rw (h.at, h.start, h.text, h.nodes) refl in
    record {
      forward = omega arith;
      inside = within;
      fits = record {
        at = rw (h.at, h.nesting, h.text, h.nodes) fits.at;
        tape = rw (h.text, h.nodes) fits.tape;
        start = rw (h.start, h.text) fits.start;
        covered = rw (h.at, h.start, h.text, h.nodes) fits.covered;
      };
      runs = λ s e. e ∙ ap (λ (t : State). Some t) (sym same);
      reached = λ r. (r.0, r.1 ∙ ap (λ (t : State). Some t) (sym same));
    }

pub none_kept : (old new : Reader) (there : at.ReaderState) (b q : List ℕ) (from n : ℕ) → n ≡ 0 → Fits old → old.at ≡ there → from ≤ length b → Keeps old (take n q) there new → RunsTo old b from (from + n) new
none_kept old new there b q from n none fits is_at within keeps =
    let same : from ≡ from + n = omega (arith, none) in
    subst (λ (to : ℕ). RunsTo old b from to new) same (stays_taken old new b from fits within (record {
      at = keeps.at ∙ sym is_at;
      text = keeps.text ∙ ap (λ (k : ℕ). old.text.items ++ take k q) none ∙ append-nil old.text.items;
      nodes = keeps.nodes;
      nesting = keeps.nesting;
      start = keeps.start;
    }))

pub one_more : (old mid new : Reader) (b : List ℕ) (from to : ℕ) → RunsTo old b from to mid → to < length b
    → step MAX_NESTING (state_view mid) (get_or b to 0) ≡ Some (state_view new) → Fits new → RunsTo old b from (to + 1) new
one_more old mid new b from to h inside gives fits = record {
  forward = omega (arith, h.forward);
  inside = omega (arith, inside);
  fits = fits;
  runs = λ s e. run_take MAX_NESTING s (state_view mid) b to inside (h.runs s e) ∙ gives;
  reached = λ r. reached_over mid new (get_or b to 0 ∷ []) (h.reached r) (run_one MAX_NESTING (state_view mid) (get_or b to 0) ∙ gives);
}

pub runs_to : (old new : Reader) (there : at.ReaderState) (b made : List ℕ) (from n : ℕ) → Fits old → old.at ≡ there → SameText there there → from + n ≤ length b
    → Adds there old.nesting.items (part old) (take n (drop from b)) made → Keeps old made there new → RunsTo old b from (from + n) new
runs_to old new there b made from n fits is_at same_text within adds keeps =
    let q = take n (drop from b) in
    let run_is = over old new there q made fits is_at adds keeps in
    record {
      forward = omega arith;
      inside = within;
      fits = kept_fits old new made there there fits is_at (λ n s h. h) same_text keeps;
      runs = λ s e. ap (run MAX_NESTING s) (take-add from n b) ∙ run_on MAX_NESTING s (state_view old) (take from b) q e ∙ run_is;
      reached = λ r. reached_over old new q r run_is;
    }

pub rest_is : (b : List ℕ) (from : ℕ) → from ≤ length b → take (length b - from) (drop from b) ≡ drop from b
rest_is b from inside = grind (arith, common_steps)

pub rest_length : (b : List ℕ) (from n : ℕ) → from ≤ length b → n ≤ length (drop from b) → from + n ≤ length b
rest_length b from n inside within = let l : n ≤ length b - from = subst (λ (k : ℕ). n ≤ k) (length-drop from b) within in omega arith

pub within_rest : (b : List ℕ) (from n : ℕ) → from ≤ length b → n ≤ length (take (length b - from) (drop from b)) → from + n ≤ length b
within_rest b from n inside few = rest_length b from n inside (subst (λ (x : List ℕ). n ≤ length x) (rest_is b from inside) few)

pub runs_over : (old new : Reader) (there : at.ReaderState) (b : List ℕ) (from n : ℕ) → Fits old → old.at ≡ there → SameText there there → from ≤ length b
    → n ≤ length (take (length b - from) (drop from b)) → Leaves there old.nesting.items (part old) (take n (take (length b - from) (drop from b)))
    → Keeps old (take n (take (length b - from) (drop from b))) there new → RunsTo old b from (from + n) new
runs_over old new there b from n fits is_at same_text within few leaves keeps =
    let same = rest_is b from within in
    runs_to old new there b (take n (drop from b)) from n fits is_at same_text (within_rest b from n within few)
    (subst (λ (x : List ℕ). Leaves there old.nesting.items (part old) (take n x)) same leaves) (subst (λ (x : List ℕ). Keeps old (take n x) there new) same keeps)
