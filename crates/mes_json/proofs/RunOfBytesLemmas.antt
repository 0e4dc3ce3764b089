-- A string is written as sequences of bytes without an escape, and the escapes between them.
use Rattle.std.proofs.Common.{◌≡◌, ℕ, ◌+◌, ◌-◌, ◌<◌, ◌≤◌, List, [], ◌∷◌, ◌++◌, length, take, drop, get_or, ap, refl, sym, ◌∙◌, subst, append_assoc, add-one, take-suc, length-drop, arith}
use Rattle.std.proofs.Math.Seq.{take-add}
use Rattle.std.proofs.lemmas.List.{append-nil, get_or-drop}
use Rattle.std.specs.List.{AllByRecursion}
use Rattle.mes_json.specs.Canonical.{escaped, escaped_text, IsKept}
use Rattle.mes_json.proofs.TakenLemmas.{rest_is}
use Rattle.mes_json.proofs.EscapedLemmas.{escaped-append, stays}

pub kept_text : (q : List ℕ) → AllByRecursion IsKept q → escaped_text q ≡ q
kept_text [] h = refl
kept_text (c ∷ q) h = ap (λ (x : List ℕ). x ++ escaped_text q) (stays c h.0.0 h.0.1 h.0.2) ∙ ap (λ (x : List ℕ). c ∷ x) (kept_text q h.1)

pub one_more : (b : List ℕ) (n : ℕ) → n < length b → escaped_text (take (n + 1) b) ≡ escaped_text (take n b) ++ escaped (get_or b n 0)
one_more b n inside =
    ap (λ (m : ℕ). escaped_text (take m b)) (add-one n) ∙ ap escaped_text (take-suc b n 0 inside)
    ∙ escaped-append (take n b) (get_or b n 0 ∷ []) ∙ ap (λ (x : List ℕ). escaped_text (take n b) ++ x) (append-nil (escaped (get_or b n 0)))

-- n bytes from the offset `place` on that need no escape
pub kept_further : (b : List ℕ) (place n : ℕ) → place ≤ length b → AllByRecursion IsKept (take n (take (length b - place) (drop place b)))
    → escaped_text (take (place + n) b) ≡ escaped_text (take place b) ++ take n (drop place b)
kept_further b place n inside kept =
    ap (λ (x : List ℕ). escaped_text x) (take-add place n b)
    ∙ escaped-append (take place b) (take n (drop place b))
    ∙ ap (λ (x : List ℕ). escaped_text (take place b) ++ x)
    (kept_text (take n (drop place b)) (subst (λ (x : List ℕ). AllByRecursion IsKept (take n x)) (rest_is b place inside) kept))

pub written_more : (b : List ℕ) (place next n m : ℕ) (start out mid new : List ℕ) → next ≡ place + 1 → m ≡ n → place < length b
    → AllByRecursion IsKept (take n (take (length b - next) (drop next b)))
    → out ≡ start ++ escaped_text (take place b) → mid ≡ out ++ escaped (get_or b place 0) → new ≡ mid ++ take m (drop next b)
    → new ≡ start ++ escaped_text (take (next + n) b)
written_more b place next n m start out mid new is same inside kept out_is mid_is new_is =
    let one : escaped_text (take next b) ≡ escaped_text (take place b) ++ escaped (get_or b place 0) =
    ap (λ (k : ℕ). escaped_text (take k b)) is ∙ one_more b place inside in
    let within : next ≤ length b = omega (arith, is, inside) in
    new_is
    ∙ ap (λ (k : ℕ). mid ++ take k (drop next b)) same
    ∙ ap (λ (x : List ℕ). x ++ take n (drop next b)) (mid_is ∙ ap (λ (x : List ℕ). x ++ escaped (get_or b place 0)) out_is ∙ append_assoc start (escaped_text (take place b)) (escaped (get_or b place 0)))
    ∙ ap (λ (x : List ℕ). (start ++ x) ++ take n (drop next b)) (sym one)
    ∙ append_assoc start (escaped_text (take next b)) (take n (drop next b))
    ∙ ap (λ (x : List ℕ). start ++ x) (sym (kept_further b next n within kept))

pub stops_behind : (b : List ℕ) (next n : ℕ) → next ≤ length b
    → (n < length (take (length b - next) (drop next b)) → IsKept (get_or (take (length b - next) (drop next b)) n 0) → ⊥)
    → next + n < length b → IsKept (get_or b (next + n) 0) → ⊥
stops_behind b next n inside stops more kept =
    let same = rest_is b next inside in
    let room : n < length (drop next b) = omega (arith, length-drop next b, more) in
    stops (subst (λ (x : List ℕ). n < length x) (sym same) room)
    (subst (λ (x : List ℕ). IsKept (get_or x n 0)) (sym same) (subst IsKept (sym (get_or-drop next b n 0)) kept))
