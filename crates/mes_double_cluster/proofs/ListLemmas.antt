-- Lemmas about the lists of a cluster.
use Rattle.std.proofs.Common.{◌≡◌, ℕ, ◌+◌, ◌<◌, suc, List, [], ◌∷◌, ◌++◌, length, take, drop, map, get_or, sym, ◌∙◌, ap, arith, append_assoc, length-take-le, add-one}
use Rattle.std.specs.Prelude.{slice_set}
use Rattle.std.proofs.Math.ListN.{set}
use Rattle.std.proofs.Math.Seq.{set-append_seam, get_or-append_seam, drop-cons}
use Rattle.std.proofs.lemmas.List.{length-map, map-append, take_more}

-- ---- lists whose first n items are replaced: item n

module _ {A : Type 0} (xs : List A) (n : ℕ) (inside : n < length xs) where
  seam : (front : List A) (d : A) → front ++ drop n xs ≡ front ++ get_or xs n d ∷ drop (suc n) xs
  seam front d = ap (λ ys. front ++ ys) (drop-cons xs n d inside)

  set_seam : (front : List A) (x : A) → length front ≡ n → set (front ++ drop n xs) n x ≡ front ++ x ∷ drop (n + 1) xs
  set_seam front x is =
      ap (λ ys. set ys n x) (seam front x) ∙ ap (λ k. set (front ++ get_or xs n x ∷ drop (suc n) xs) k x) (sym is)
      ∙ set-append_seam front (get_or xs n x) (drop (suc n) xs) x ∙ ap (λ k. front ++ x ∷ drop k xs) (sym (add-one n))

  get_seam : (front : List A) (d : A) → length front ≡ n → get_or (front ++ drop n xs) n d ≡ get_or xs n d
  get_seam front d is =
      ap (λ ys. get_or ys n d) (seam front d) ∙ ap (λ k. get_or (front ++ get_or xs n d ∷ drop (suc n) xs) k d) (sym is)
      ∙ get_or-append_seam front (get_or xs n d) (drop (suc n) xs) d

  -- item n is replaced by its value under f, where the items before it are replaced already
  pub mapped_more : (f : A → A) (now : List A) (d new : A) → now ≡ map f (take n xs) ++ drop n xs → new ≡ f (get_or now n d)
      → slice_set now n new ≡ map f (take (n + 1) xs) ++ drop (n + 1) xs
  mapped_more f now d new is changed =
      let front : List A = map f (take n xs) in
      let long : length front ≡ n = length-map (take n xs) f ∙ length-take-le n xs (omega arith) in
      let there : get_or now n d ≡ get_or xs n d = ap (λ ys. get_or ys n d) is ∙ get_seam front d long in
      let grown : front ++ new ∷ [] ≡ map f (take (n + 1) xs) =
      ap (λ (x : A). front ++ x ∷ []) (changed ∙ ap f there) ∙ sym (ap (map f) (take_more xs n d inside) ∙ map-append f (take n xs) (get_or xs n d ∷ [])) in
      ap (λ ys. set ys n new) is ∙ set_seam front new long
      ∙ sym (append_assoc front (new ∷ []) (drop (n + 1) xs)) ∙ ap (λ ys. ys ++ drop (n + 1) xs) grown
