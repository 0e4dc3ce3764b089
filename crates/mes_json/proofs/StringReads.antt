-- Completeness: the state machine reads each string of the grammar, as a name and as a value.
use Rattle.std.proofs.Common.{◌≡◌, ℕ, List, [], ◌∷◌, ◌++◌, refl, ap, sym, ◌∙◌, subst, append_assoc, append-nil, encode_utf8}
use Rattle.mes_json.specs.Tree.Tree.{string}
use Rattle.mes_json.specs.Tree.{Members}
use Rattle.mes_json.specs.Grammar.{IsChars, IsString, Spaced}
use Rattle.mes_json.specs.Grammar.IsChars.{none, some}
use Rattle.mes_json.specs.Machine.{Frame, Purpose, run, end_string, on_name, on_named}
use Rattle.mes_json.specs.Machine.State.{state}
use Rattle.mes_json.specs.Machine.ReaderState.{value, name, quoted, named, after}
use Rattle.mes_json.specs.Machine.Utf8State.{between}
use Rattle.mes_json.specs.Machine.Purpose.{for_name, for_value}
use Rattle.mes_json.proofs.Reach.{Reaches, by_byte, then_to, over_spaces}
use Rattle.mes_json.proofs.EscapeLemmas.{over_char}

over_chars : (d : ℕ) (fs : List Frame) (p : Purpose) (w b s : List ℕ) → IsChars b s → Reaches d (state fs (quoted p between w)) b (state fs (quoted p between (w ++ s)))
over_chars d fs p w b s (none e f) = λ q. ap (λ (x : List ℕ). run d (state fs (quoted p between w)) (x ++ q)) e ∙ ap (λ (x : List ℕ). run d (state fs (quoted p between x)) q) (sym (append-nil w) ∙ ap (λ (x : List ℕ). w ++ x) (sym f))
over_chars d fs p w b s (some first rest c others is is_rest e f) = λ q.
    ap (λ (x : List ℕ). run d (state fs (quoted p between w)) (x ++ q)) e
    ∙ then_to d _ _ _ first rest (over_char d fs p w first c is) (over_chars d fs p (w ++ encode_utf8 c) rest others is_rest) q
    ∙ ap (λ (x : List ℕ). run d (state fs (quoted p between x)) q) (append_assoc w (encode_utf8 c) others ∙ ap (λ (x : List ℕ). w ++ x) (sym f))

over_inside : (d : ℕ) (fs : List Frame) (p : Purpose) (s b : List ℕ) → IsString s b → (rest : List ℕ) → b ≡ 34 ∷ rest → Reaches d (state fs (quoted p between [])) rest (end_string fs p s)
over_inside d fs p s b h rest e =
    subst (λ (x : List ℕ). Reaches d (state fs (quoted p between [])) x (end_string fs p s)) same
    (then_to d _ _ _ h.inside (34 ∷ []) (over_chars d fs p [] h.inside s h.chars) (by_byte d _ _ 34 refl))
  where
    same : h.inside ++ 34 ∷ [] ≡ rest
    same = let f : 34 ∷ (h.inside ++ 34 ∷ []) ≡ 34 ∷ rest = sym h.is ∙ e in cc

over_name : (d : ℕ) (fs : List Frame) (ms : Members) (k b : List ℕ) → IsString k b → Reaches d (state fs (name ms)) b (state fs (named ms k))
over_name d fs ms k b h =
    subst (λ (x : List ℕ). Reaches d (state fs (name ms)) x (state fs (named ms k))) (sym h.is)
    (then_to d _ _ _ (34 ∷ []) (h.inside ++ 34 ∷ []) (by_byte d _ _ 34 refl) (over_inside d fs (for_name ms) k b h (h.inside ++ 34 ∷ []) h.is))

pub over_string : (d : ℕ) (fs : List Frame) (s b : List ℕ) → IsString s b → Reaches d (state fs value) b (state fs (after (string s)))
over_string d fs s b h =
    subst (λ (x : List ℕ). Reaches d (state fs value) x (state fs (after (string s)))) (sym h.is)
    (then_to d _ _ _ (34 ∷ []) (h.inside ++ 34 ∷ []) (by_byte d _ _ 34 refl) (over_inside d fs for_value s b h (h.inside ++ 34 ∷ []) h.is))

pub over_spaced_name : (d : ℕ) (fs : List Frame) (ms : Members) (k b : List ℕ) → Spaced (IsString k) b → Reaches d (state fs (name ms)) b (state fs (named ms k))
over_spaced_name d fs ms k b h =
    subst (λ (x : List ℕ). Reaches d (state fs (name ms)) x (state fs (named ms k))) (sym h.is)
    (then_to d _ _ _ h.before (h.inside ++ h.after) (over_spaces d _ (λ c e. ap (on_name fs ms) e) h.before h.spaces_before)
    (then_to d _ _ _ h.inside h.after (over_name d fs ms k h.inside h.has) (over_spaces d _ (λ c e. ap (on_named fs ms k) e) h.after h.spaces_after)))
