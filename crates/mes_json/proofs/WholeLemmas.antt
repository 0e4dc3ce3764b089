-- The reader's result at the end of the bytes: the tape, if the value is whole.
use Rattle.std.proofs.Common.{◌≡◌, ◌==◌, Bool, true, false, List, [], ◌∷◌, ◌++◌, length, Option, Some, option_map, ap, sym, ◌∙◌, subst, arith}
use Rattle.std.proofs.lemmas.Grind.{common_steps}
use Rattle.std.specs.List.{AllByRecursion}
use Rattle.mes_fixed.specs.Automaton.{is_final}
use Rattle.mes_fixed.specs.declared.automaton.NumberState.{NumberState}
use Rattle.mes_json.specs.Tree.{Tree}
use Rattle.mes_json.specs.Tree.Tree.{number}
use Rattle.mes_json.specs.Machine.{Frame, finish, finish_number}
use Rattle.mes_json.specs.Machine.ReaderState.{after, token}
use Rattle.mes_json.specs.Machine.Token.{digits}
use Rattle.mes_json.specs.Machine.State.{state}
use Rattle.mes_json.specs.Machine.Frame.{frame, array_frame}
use Rattle.mes_json.specs.Reader.{opens, state_view, AfterValue, AtValue, Fits, EndsWhole, IsWhole}
use Rattle.mes_json.specs.Tokens.{Token, tokens}
use Rattle.mes_json.specs.Cursor.{tokens_held}
use Rattle.mes_json.specs.Tape.{HasSpan, valued}
use Rattle.mes_json.specs.declared.nesting.Open.{Open}
use Rattle.mes_json.specs.declared.reader_state.ReaderState as at
use Rattle.mes_json.specs.declared.reader.Reader.{Reader}
use Rattle.mes_json.proofs.ReaderLemmas.{tape_of, due, part, view_at, form_at}
use Rattle.mes_json.proofs.TokensHeld.{tokens_spelled}

not_empty : (xs : List Open) (x : Open) → (length (xs ++ x ∷ []) == 0) ≡ false
not_empty xs x = grind (arith, common_steps)

pub ends_behind : (r : Reader) (whole : Bool) → Fits r → r.at ≡ at.TheVariants.After → whole ≡ (length r.nesting.items == 0) → EndsWhole whole (finish (state_view r)) r
ends_behind r whole fits is_at none =
    let h : AfterValue r.nesting.items (tape_of r) = form_at r at.TheVariants.After is_at fits in
    by h.frames h.tree whole (view_at r at.TheVariants.After is_at ∙ h.is) h.is (none ∙ ap (λ (xs : List Open). length xs == 0) h.are_open)
  where
    by : (fs : List Frame) (t : Tree) (b : Bool) → state_view r ≡ state fs (after t) → tape_of r ≡ state fs (after t) → b ≡ (length (opens fs) == 0)
        → EndsWhole b (finish (state_view r)) r
    by [] t b shown is e = subst (λ (x : Bool). EndsWhole x (finish (state_view r)) r) (sym e) (t, ap finish shown, is, fits.tape)
    by (frame ms k ∷ fs) t b shown is e = subst (λ (x : Bool). EndsWhole x (finish (state_view r)) r) (sym (e ∙ not_empty (opens fs) _)) (ap finish shown)
    by (array_frame ts ∷ fs) t b shown is e = subst (λ (x : Bool). EndsWhole x (finish (state_view r)) r) (sym (e ∙ not_empty (opens fs) _)) (ap finish shown)

pub tape_found : (r : Reader) (whole : Bool) (found : Option Tree) (tape : List Token) → whole ≡ true → EndsWhole whole found r
    → tape ≡ tokens_held r.text.items r.nodes.items → Some tape ≡ option_map tokens found
tape_found r whole found tape here h held = by (subst (λ (b : Bool). EndsWhole b found r) here h)
  where
    by : EndsWhole true found r → Some tape ≡ option_map tokens found
    by (t, finds, is, fits) =
        ap (λ (x : List Token). Some x) (held ∙ tokens_spelled r.text.items r.nodes.items t fits.placed is) ∙ ap (option_map tokens) (sym finds)

pub tape_spans : (r : Reader) (whole : Bool) (found : Option Tree) → whole ≡ true → EndsWhole whole found r → AllByRecursion (HasSpan r.text.items) r.nodes.items
tape_spans r whole found here h = by (subst (λ (b : Bool). EndsWhole b found r) here h)
  where
    by : EndsWhole true found r → AllByRecursion (HasSpan r.text.items) r.nodes.items
    by (t, finds, is, fits) = fits.spans

-- a whole number outside objects and arrays is a whole text
pub number_is_whole : (r : Reader) (x : NumberState) → Fits r → r.at ≡ at.TheVariants.Digits x → is_final x ≡ true → true ≡ (length r.nesting.items == 0) → IsWhole (state_view r)
number_is_whole r x fits is_at final empty =
    let from = at.TheVariants.Digits x in
    let h : AtValue r.nesting.items (due from r) = form_at r from is_at fits in
    by h.frames (view_at r from is_at ∙ ap (valued (token (digits x (part r)))) h.is) (empty ∙ ap (λ (xs : List Open). length xs == 0) h.are_open)
  where
    by : (fs : List Frame) → state_view r ≡ state fs (token (digits x (part r))) → true ≡ (length (opens fs) == 0) → IsWhole (state_view r)
    by [] shown e = (number (part r), ap finish shown ∙ ap (λ (b : Bool). finish_number b (part r)) final)
    by (frame ms k ∷ fs) shown e = absurd (let both : true ≡ false = e ∙ not_empty (opens fs) _ in cc)
    by (array_frame ts ∷ fs) shown e = absurd (let both : true ≡ false = e ∙ not_empty (opens fs) _ in cc)
