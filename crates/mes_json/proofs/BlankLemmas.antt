-- White space between tokens leaves the state of the reader unchanged.
use Rattle.std.proofs.Common.{◌≡◌, ℕ, ◌+◌, ◌-◌, ◌≤◌, ◌⊎◌, inl, inr, List, [], ◌∷◌, length, take, drop, Some, option_and_then, refl, ap, sym, ◌∙◌, subst, arith}
use Rattle.std.proofs.Math.Seq.{take-add}
use Rattle.std.specs.List.{AllByRecursion}
use Rattle.mes_json.specs.Tree.Members.{no_members}
use Rattle.mes_json.specs.Machine as m
use Rattle.mes_json.specs.Machine.{State, step, run, kind_of, on_value, on_first_item, on_name, on_named, on_after}
use Rattle.mes_json.specs.Reader.{state_view, with_read, IsAt, Fits, RunsTo, IsBlank}
use Rattle.mes_json.specs.declared.limits.TheConstants.{MAX_NESTING}
use Rattle.mes_json.specs.declared.nesting.Open.{Open}
use Rattle.mes_json.specs.declared.reader_state.ReaderState as at
use Rattle.mes_json.specs.declared.reader.Reader.{Reader}
use Rattle.mes_json.proofs.RunLemmas.{run_on}
use Rattle.mes_json.proofs.ReaderLemmas.{part, due, form_at}
use Rattle.mes_json.proofs.TakenLemmas.{rest_is, rest_length}

blank_kind : (c : ℕ) → IsBlank c → kind_of c ≡ m.ByteClass.blank
blank_kind c (inl e) = ap kind_of e
blank_kind c (inr (inl e)) = ap kind_of e
blank_kind c (inr (inr (inl e))) = ap kind_of e
blank_kind c (inr (inr (inr e))) = ap kind_of e

-- in the reader's state a, white space leaves the state of the state machine unchanged
abbrev Passes : at.ReaderState → Type 0
Passes a = (n : List Open) (b : List ℕ) (s : State) (c : ℕ) → IsAt a n s → IsBlank c → step MAX_NESTING (with_read a b s) c ≡ Some (with_read a b s)

passes_value : Passes at.TheVariants.Value
passes_value n b s c h is =
    ap (λ (t : State). step MAX_NESTING t c) h.is ∙ ap (on_value MAX_NESTING h.frames) (blank_kind c is) ∙ ap (λ (t : State). Some t) (sym h.is)

passes_first_item : Passes at.TheVariants.FirstItem
passes_first_item n b s c h is =
    ap (λ (t : State). step MAX_NESTING t c) h.is ∙ ap (on_first_item MAX_NESTING h.frames) (blank_kind c is) ∙ ap (λ (t : State). Some t) (sym h.is)

passes_first_name : Passes at.TheVariants.FirstName
passes_first_name n b s c h is =
    ap (λ (t : State). step MAX_NESTING t c) h.is ∙ ap (on_name h.frames no_members) (blank_kind c is) ∙ ap (λ (t : State). Some t) (sym h.is)

passes_name : Passes at.TheVariants.Name
passes_name n b s c h is =
    ap (λ (t : State). step MAX_NESTING t c) h.is ∙ ap (on_name h.frames h.members) (blank_kind c is) ∙ ap (λ (t : State). Some t) (sym h.is)

passes_colon : Passes at.TheVariants.Colon
passes_colon n b s c h is =
    ap (λ (t : State). step MAX_NESTING t c) h.is ∙ ap (on_named h.frames h.members h.name) (blank_kind c is) ∙ ap (λ (t : State). Some t) (sym h.is)

passes_after : Passes at.TheVariants.After
passes_after n b s c h is =
    ap (λ (t : State). step MAX_NESTING t c) h.is ∙ ap (on_after h.frames h.tree) (blank_kind c is) ∙ ap (λ (t : State). Some t) (sym h.is)

abbrev IsBetween : at.ReaderState → Type 0
IsBetween a =
    (a ≡ at.TheVariants.Value) ⊎ ((a ≡ at.TheVariants.FirstItem) ⊎ ((a ≡ at.TheVariants.FirstName)
    ⊎ ((a ≡ at.TheVariants.Name) ⊎ ((a ≡ at.TheVariants.Colon) ⊎ (a ≡ at.TheVariants.After)))))

passes : (a : at.ReaderState) → IsBetween a → Passes a
passes a (inl e) = subst Passes (sym e) passes_value
passes a (inr (inl e)) = subst Passes (sym e) passes_first_item
passes a (inr (inr (inl e))) = subst Passes (sym e) passes_first_name
passes a (inr (inr (inr (inl e)))) = subst Passes (sym e) passes_name
passes a (inr (inr (inr (inr (inl e))))) = subst Passes (sym e) passes_colon
passes a (inr (inr (inr (inr (inr e))))) = subst Passes (sym e) passes_after

over_blanks : (d : ℕ) (s : State) (q : List ℕ) → ((c : ℕ) → IsBlank c → step d s c ≡ Some s) → AllByRecursion IsBlank q → run d s q ≡ Some s
unfolding run
over_blanks d s [] passes h = refl
over_blanks d s (c ∷ q) passes h = ap (option_and_then (λ (next : State). run d next q)) (passes c h.0) ∙ over_blanks d s q passes h.1

pub blanks_taken : (r : Reader) (b : List ℕ) (from n : ℕ) → Fits r → IsBetween r.at → from ≤ length b
    → n ≤ length (take (length b - from) (drop from b)) → AllByRecursion IsBlank (take n (take (length b - from) (drop from b)))
    → RunsTo r b from (from + n) r
blanks_taken r b from n fits between within few blank =
    let same = rest_is b from within in
    let q = take n (drop from b) in
    let all = subst (λ (x : List ℕ). AllByRecursion IsBlank (take n x)) same blank in
    let run_is = over_blanks MAX_NESTING (state_view r) q (λ c is. passes r.at between r.nesting.items (part r) (due r.at r) c (form_at r r.at refl fits) is) all in
    record {
      forward = omega arith;
      inside = rest_length b from n within (subst (λ (x : List ℕ). n ≤ length x) same few);
      fits = fits;
      runs = λ s e. ap (run MAX_NESTING s) (take-add from n b) ∙ run_on MAX_NESTING s (state_view r) (take from b) q e ∙ run_is;
      reached = λ h. h;
    }
