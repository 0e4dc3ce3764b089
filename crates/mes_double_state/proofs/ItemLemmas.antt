-- The JSON trees of the first items of a list.
use Rattle.std.proofs.Common.{◌≡◌, ℕ, ◌+◌, ◌<◌, List, [], ◌∷◌, ◌++◌, Some, None, length, take, map, ap, sym, ◌∙◌, inl, inr, arith}
use Rattle.std.specs.Prelude.{slice_get}
use Rattle.std.proofs.lemmas.List.{map-append, take_more}
use Rattle.std.proofs.lemmas.Option.{get_or_from_slice_get, slice_get_within, slice_get_cases}
use Rattle.mes_json.specs.Tree.{Tree}

module _ {X : Type 0} (tree : X → Tree) (xs : List X) (i : ℕ) where
  pub tree_more : (x : X) (before after : List Tree) → Some x ≡ slice_get xs i → before ≡ map tree (take i xs) → after ≡ before ++ tree x ∷ [] → after ≡ map tree (take (i + 1) xs)
  tree_more x before after is so_far added =
      let at = sym is in
      let more = take_more xs i x (slice_get_within xs i x at) ∙ ap (λ (y : X). take i xs ++ y ∷ []) (get_or_from_slice_get xs i x x at) in
      added ∙ ap (λ (ts : List Tree). ts ++ tree x ∷ []) so_far ∙ sym (ap (map tree) more ∙ map-append tree (take i xs) (x ∷ []))

  pub none_missing : i < length xs → None ≡ slice_get xs i → ⊥
  none_missing inside none = elim (slice_get_cases xs i).1 [
    | inl h ↦ let clash : None ≡ Some h.0 = none ∙ h.2 in absurd (cc)
    | inr h ↦ let past = h.0 in absurd (omega (arith, past, inside))
  ]
