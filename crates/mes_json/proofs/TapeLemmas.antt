-- The state that a tape represents after one more node, and after more bytes of texts.
use Rattle.std.proofs.Common.{◌≡◌, ℕ, ◌+◌, ◌-◌, ◌≤◌, List, [], ◌∷◌, ◌++◌, length, take, drop, refl, ap, sym, ◌∙◌, subst, arith, length-drop, length-append}
use Rattle.std.proofs.lemmas.List.{take-append-le, drop-append-le}
use Rattle.std.specs.List.{AllByRecursion}
use Rattle.std.specs.Str.{IsUtf8}
use Rattle.mes_fixed.specs.Number.{IsNumber}
use Rattle.mes_json.specs.Machine.{State, start}
use Rattle.mes_json.specs.Machine.ReaderState.{named, after}
use Rattle.mes_json.specs.Tree.Tree.{number, string}
use Rattle.mes_json.specs.Tape.{span, span_length, spanned, value_due, name_due, valued, in_object, apply, spelled_from, spelled, IsSpan, HasSpan, Takes, ArePlaced, IsTape}
use Rattle.mes_json.specs.declared.tape.Node.{Node}
use Rattle.mes_json.specs.declared.tape.Node.TheVariants.{Null, Bool, Number, Text, Name, List as list, Map, End}

pub spelled_last : (texts : List ℕ) (s : State) (xs : List Node) (x : Node) → spelled_from texts s (xs ++ x ∷ []) ≡ apply texts x (spelled_from texts s xs)
spelled_last texts s [] x = refl
spelled_last texts s (y ∷ xs) x = spelled_last texts (apply texts y s) xs x

placed_last : (texts : List ℕ) (s : State) (xs : List Node) (x : Node) → ArePlaced texts s xs → Takes (spelled_from texts s xs) x → ArePlaced texts s (xs ++ x ∷ [])
placed_last texts s [] x h takes = (takes, tt)
placed_last texts s (y ∷ xs) x h takes = (h.0, placed_last texts (apply texts y s) xs x h.1 takes)

pub spans_last : (texts : List ℕ) (xs : List Node) (x : Node) → AllByRecursion (HasSpan texts) xs → HasSpan texts x → AllByRecursion (HasSpan texts) (xs ++ x ∷ [])
spans_last texts [] x h has = (has, tt)
spans_last texts (y ∷ xs) x h has = (h.0, spans_last texts xs x h.1 has)

pub spanned_last : (xs : List Node) (x : Node) → spanned (xs ++ x ∷ []) ≡ spanned xs + span_length x
spanned_last [] x = omega arith
spanned_last (y ∷ xs) x = omega (arith, spanned_last xs x)

pub tape_last : (texts : List ℕ) (xs : List Node) (x : Node) → IsTape texts xs → HasSpan texts x → Takes (spelled texts xs) x → IsTape texts (xs ++ x ∷ [])
tape_last texts xs x h has takes = record { spans = spans_last texts xs x h.spans has; placed = placed_last texts start xs x h.placed takes }

-- bytes appended to the buffer of texts leave the text of each span unchanged
pub span_grows : (texts more : List ℕ) (from to : ℕ) → from ≤ to → to ≤ length texts → span (texts ++ more) from to ≡ span texts from to
span_grows texts more from to forward inside =
    let start_inside : from ≤ length texts = omega arith in
    let part_inside : to - from ≤ length (drop from texts) = simp length-drop (omega arith) in
    ap (λ (x : List ℕ). take (to - from) x) (drop-append-le from texts more start_inside) ∙ take-append-le (to - from) (drop from texts) more part_inside

is_span_grows : (texts more : List ℕ) (from to : ℕ) → IsSpan texts from to → IsSpan (texts ++ more) from to
is_span_grows texts more from to h = record {
  forward = h.forward;
  inside = simp length-append (let l : to ≤ length texts = h.inside in omega arith);
  utf8 = subst IsUtf8 (sym (span_grows texts more from to h.forward h.inside)) h.utf8;
}

has_span_grows : (texts more : List ℕ) (x : Node) → HasSpan texts x → HasSpan (texts ++ more) x
has_span_grows texts more Null h = tt
has_span_grows texts more (Bool x) h = tt
has_span_grows texts more (Number from to) h = record {
  span_is = is_span_grows texts more from to h.span_is;
  number_is = subst IsNumber (sym (span_grows texts more from to h.span_is.forward h.span_is.inside)) h.number_is;
}
has_span_grows texts more (Text from to) h = is_span_grows texts more from to h
has_span_grows texts more (Name from to) h = is_span_grows texts more from to h
has_span_grows texts more (list n) h = tt
has_span_grows texts more (Map n) h = tt
has_span_grows texts more End h = tt

pub spans_grow : (texts more : List ℕ) (xs : List Node) → AllByRecursion (HasSpan texts) xs → AllByRecursion (HasSpan (texts ++ more)) xs
spans_grow texts more [] h = tt
spans_grow texts more (x ∷ xs) h = (has_span_grows texts more x h.0, spans_grow texts more xs h.1)

apply_grows : (texts more : List ℕ) (x : Node) (s : State) → HasSpan texts x → apply (texts ++ more) x s ≡ apply texts x s
apply_grows texts more Null s h = refl
apply_grows texts more (Bool x) s h = refl
apply_grows texts more (Number from to) s h =
    ap (λ (b : List ℕ). valued (after (number b)) (value_due s)) (span_grows texts more from to h.span_is.forward h.span_is.inside)
apply_grows texts more (Text from to) s h = ap (λ (b : List ℕ). valued (after (string b)) (value_due s)) (span_grows texts more from to h.forward h.inside)
apply_grows texts more (Name from to) s h = ap (λ (b : List ℕ). in_object (λ ms. named ms b) (name_due s)) (span_grows texts more from to h.forward h.inside)
apply_grows texts more (list n) s h = refl
apply_grows texts more (Map n) s h = refl
apply_grows texts more End s h = refl

pub spelled_grows : (texts more : List ℕ) (s : State) (xs : List Node) → AllByRecursion (HasSpan texts) xs → spelled_from (texts ++ more) s xs ≡ spelled_from texts s xs
spelled_grows texts more s [] h = refl
spelled_grows texts more s (x ∷ xs) h =
    ap (λ (t : State). spelled_from (texts ++ more) t xs) (apply_grows texts more x s h.0) ∙ spelled_grows texts more (apply texts x s) xs h.1

placed_grow : (texts more : List ℕ) (s : State) (xs : List Node) → AllByRecursion (HasSpan texts) xs → ArePlaced texts s xs → ArePlaced (texts ++ more) s xs
placed_grow texts more s [] spans h = tt
placed_grow texts more s (x ∷ xs) spans h =
    (h.0, subst (λ (t : State). ArePlaced (texts ++ more) t xs) (sym (apply_grows texts more x s spans.0)) (placed_grow texts more (apply texts x s) xs spans.1 h.1))

pub tape_grows : (texts more : List ℕ) (xs : List Node) → IsTape texts xs → IsTape (texts ++ more) xs
tape_grows texts more xs h = record { spans = spans_grow texts more xs h.spans; placed = placed_grow texts more start xs h.spans h.placed }
