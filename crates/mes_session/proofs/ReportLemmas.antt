-- Lemmas about the lines that a report has for the first items of a list.
use Rattle.std.proofs.Common.{◌≡◌, ℕ, ◌+◌, ◌<◌, List, [], ◌∷◌, ◌++◌, Some, None, length, take, ap, sym, ◌∙◌, append_assoc, append-nil, inl, inr, arith}
use Rattle.std.specs.List.{flat_map}
use Rattle.std.specs.Prelude.{slice_get}
use Rattle.std.proofs.lemmas.Grind.{flat_map-append}
use Rattle.std.proofs.lemmas.List.{take_more}
use Rattle.std.proofs.lemmas.Option.{get_or_from_slice_get, slice_get_within, slice_get_cases}

module _ {X : Type 0} (line : X → List ℕ) (xs : List X) (i : ℕ) where
  pub line_more : (x : X) (old before after : List ℕ) → Some x ≡ slice_get xs i → before ≡ old ++ flat_map line (take i xs) → after ≡ before ++ line x
      → after ≡ old ++ flat_map line (take (i + 1) xs)
  line_more x old before after is so_far added =
      let at = sym is in
      let more = take_more xs i x (slice_get_within xs i x at) ∙ ap (λ (y : X). take i xs ++ y ∷ []) (get_or_from_slice_get xs i x x at) in
      let all = ap (λ (ys : List X). flat_map line ys) more ∙ flat_map-append line (take i xs) (x ∷ []) ∙ ap (λ (b : List ℕ). flat_map line (take i xs) ++ b) (append-nil (line x)) in
      added ∙ ap (λ (b : List ℕ). b ++ line x) so_far ∙ append_assoc old (flat_map line (take i xs)) (line x) ∙ ap (λ (b : List ℕ). old ++ b) (sym all)

  pub none_missing : i < length xs → None ≡ slice_get xs i → ⊥
  none_missing inside none = elim (slice_get_cases xs i).1 [
    | inl h ↦ let clash : None ≡ Some h.0 = none ∙ h.2 in absurd (cc)
    | inr h ↦ let past = h.0 in absurd (omega (arith, past, inside))
  ]
