-- Runs of the reader over characters of a string without an escape.
use Rattle.std.proofs.Common.{◌≡◌, ℕ, ◌+◌, ◌-◌, ◌<◌, ◌≤◌, List, ◌∷◌, ◌++◌, length, take, drop, Some, Ok, get_or, ap, sym, ◌∙◌, refl, subst, arith, length-drop, ◌⊎◌, inl, inr}
use Rattle.mes_json.specs.Machine as m
use Rattle.mes_json.specs.Machine.{Frame, State, step, run}
use Rattle.mes_json.specs.Machine.Frame.{frame}
use Rattle.mes_json.specs.Machine.State.{state}
use Rattle.mes_json.specs.Tape.{value_due}
use Rattle.mes_json.specs.Reader.{with_read, AtColon, AtValue, IsAt, Fits, Reached, Keeps, Puts, RunsTo, StandAlone, string_node, following_string}
use Rattle.mes_json.specs.declared.limits.TheConstants.{MAX_NESTING}
use Rattle.mes_json.specs.declared.nesting.Open.{Open}
use Rattle.mes_json.specs.declared.utf8.Utf8State as mid
use Rattle.mes_json.specs.declared.reader_state.Purpose as purpose
use Rattle.mes_json.specs.declared.reader_state.ReaderState as at
use Rattle.mes_json.specs.declared.reader.Reader.{Reader}
use Rattle.mes_json.proofs.ReaderLemmas.{part, due, view_at, form_at, covered_at}
use Rattle.mes_json.proofs.TakenLemmas.{rest_is, runs_over, nothing_taken, none_kept, one_more}
use Rattle.mes_json.proofs.StringLemmas.{string_ends}

abbrev pub inside : purpose.Purpose → at.ReaderState
inside p = at.TheVariants.Quoted p mid.TheVariants.Between

-- read between two characters of a string, the bytes q add the bytes `made` to the decoded string
abbrev pub Spells : List ℕ → List ℕ → Type 0
Spells q made = (fs : List Frame) (p : m.Purpose) (b : List ℕ)
    → run MAX_NESTING (state fs (m.ReaderState.quoted p m.Utf8State.between b)) q ≡ Some (state fs (m.ReaderState.quoted p m.Utf8State.between (b ++ made)))

pub spelled_run : (p : purpose.Purpose) (n : List Open) (b q made : List ℕ) (s : State) → IsAt (inside p) n s → Spells q made
    → run MAX_NESTING (with_read (inside p) b s) q ≡ Some (with_read (inside p) (b ++ made) s)
spelled_run purpose.TheVariants.Name n b q made s h spells =
    ap (λ (t : State). run MAX_NESTING (with_read (inside purpose.TheVariants.Name) b t) q) h.is
    ∙ spells h.frames (m.Purpose.for_name h.members) b
    ∙ ap (λ (t : State). Some (with_read (inside purpose.TheVariants.Name) (b ++ made) t)) (sym h.is)
spelled_run purpose.TheVariants.Value n b q made s h spells =
    ap (λ (t : State). run MAX_NESTING (with_read (inside purpose.TheVariants.Value) b t) q) h.is
    ∙ spells h.frames m.Purpose.for_value b
    ∙ ap (λ (t : State). Some (with_read (inside purpose.TheVariants.Value) (b ++ made) t)) (sym h.is)

pub characters_taken : (old new : Reader) (p : purpose.Purpose) (b : List ℕ) (from n : ℕ) → Fits old → old.at ≡ inside p → from ≤ length b
    → n ≤ length (take (length b - from) (drop from b)) → StandAlone (take n (take (length b - from) (drop from b)))
    → Keeps old (take n (take (length b - from) (drop from b))) (inside p) new → RunsTo old b from (from + n) new
characters_taken old new p b from n fits is_at within few alone keeps =
    let q = take n (take (length b - from) (drop from b)) in
    runs_over old new (inside p) b from n fits is_at (λ start end last. refl) within few (λ s h. spelled_run p old.nesting.items (part old) q q s h alone.runs) keeps

pub front_taken : (old new : Reader) (p : purpose.Purpose) (b : List ℕ) (from run n : ℕ) → Fits old → old.at ≡ inside p → from ≤ length b
    → run ≤ length (take (length b - from) (drop from b)) → StandAlone (take run (take (length b - from) (drop from b))) → (n ≡ run) ⊎ (n ≡ 0)
    → Keeps old (take n (take (length b - from) (drop from b))) (inside p) new → RunsTo old b from (from + n) new
front_taken old new p b from run n fits is_at within few alone (inl all) keeps =
    characters_taken old new p b from n fits is_at within (omega (arith, all, few)) (subst (λ (k : ℕ). StandAlone (take k (take (length b - from) (drop from b)))) (sym all) alone) keeps
front_taken old new p b from run n fits is_at within few alone (inr none) keeps =
    none_kept old new (inside p) b (take (length b - from) (drop from b)) from n none fits is_at within keeps

pub few_taken : (old new : Reader) (p : purpose.Purpose) (b : List ℕ) (from n : ℕ) → Fits old → old.at ≡ inside p → n < 16 → from + 16 ≤ length b
    → StandAlone (take n (drop from b)) → Keeps old (take n (take (length b - from) (drop from b))) (inside p) new → RunsTo old b from (from + n) new
few_taken old new p b from n fits is_at few block alone keeps =
    let within : from ≤ length b = omega (arith, block) in
    let same = rest_is b from within in
    let enough : n ≤ length (drop from b) = subst (λ (k : ℕ). n ≤ k) (sym (length-drop from b)) (omega (arith, few, block)) in
    characters_taken old new p b from n fits is_at within (subst (λ (x : List ℕ). n ≤ length x) (sym same) enough)
    (subst (λ (x : List ℕ). StandAlone (take n x)) (sym same) alone) keeps

pub string_taken : (old new : Reader) (p : purpose.Purpose) (b : List ℕ) (from : ℕ) → Puts old old.nesting.items (string_node p old) (following_string p) new
    → Fits old → Reached old → old.at ≡ inside p → from < length b → get_or b from 0 ≡ 34 → RunsTo old b from (from + 1) new
string_taken old new p b from puts fits reached is_at more quote =
    let ends = string_ends {A = ℕ} p old new (Ok 0) (get_or b from 0) fits reached is_at quote puts tt in
    one_more old old new b from from (nothing_taken old b from fits (omega (arith, more))) more ends.0 ends.1

pub runs_further : (old mid new : Reader) (b : List ℕ) (from place to : ℕ) → RunsTo old b from place mid → RunsTo mid b place to new → RunsTo old b from to new
runs_further old mid new b from place to h k = record {
  forward = omega (arith, h.forward, k.forward);
  inside = k.inside;
  fits = k.fits;
  runs = λ s e. k.runs s (h.runs s e);
  reached = λ r. k.reached (h.reached r);
}

value_form : (n : List Open) (s : State) → AtColon n s → AtValue n (value_due s)
value_form n s h = record { frames = frame h.members h.name ∷ h.frames; is = ap value_due h.is; are_open = h.are_open }

pub colon_taken : (old : Reader) (b : List ℕ) (from : ℕ) → Fits old → old.at ≡ at.TheVariants.Colon → from < length b → get_or b from 0 ≡ 58
    → RunsTo old b from (from + 1) (record { at = at.TheVariants.Value; nesting = old.nesting; start = old.start; text = old.text; nodes = old.nodes })
colon_taken old b from fits is_at inside colon =
    let h = form_at old at.TheVariants.Colon is_at fits in
    one_more old old _ b from from (nothing_taken old b from fits (omega (arith, inside))) inside
    (ap (λ (s : State). step MAX_NESTING s (get_or b from 0)) (view_at old at.TheVariants.Colon is_at ∙ h.is)
    ∙ ap (step MAX_NESTING (state h.frames (m.ReaderState.named h.members h.name))) colon ∙ ap (λ (s : State). Some (value_due s)) (sym h.is))
    (record { at = value_form old.nesting.items (due at.TheVariants.Colon old) h; tape = fits.tape; start = fits.start; covered = covered_at old at.TheVariants.Colon is_at fits })
