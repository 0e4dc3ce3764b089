-- Lemmas: lists are written item by item.
use Rattle.std.proofs.Common.{◌≡◌, ℕ, ◌+◌, ◌<◌, List, [], ◌∷◌, ◌++◌, map, take, length, get_or, sym, ◌∙◌, ap, subst, add-one}
use Rattle.std.proofs.Math.Seq.{take-suc}
use Rattle.std.proofs.lemmas.List.{map-append}
use Rattle.mes_model_schema.specs.Kinds.{Kind, Returns}
use Rattle.mes_model_schema.specs.Rows.{ReturnsEach}

pub take_next : {A : Type 0} (xs : List A) (i : ℕ) (x : A) → i < length xs → x ≡ get_or xs i x → take (i + 1) xs ≡ take i xs ++ x ∷ []
take_next xs i x inside is =
    ap (λ (n : ℕ). take n xs) (add-one i) ∙ take-suc xs i x inside ∙ ap (λ y. take i xs ++ y ∷ []) (sym is)

pub trees_next : {A B C : Type 0} (view : C → B) (tree : A → B) (xs : List A) (i : ℕ) (x : A) (ts : List C) (t : C) → i < length xs → x ≡ get_or xs i x
    → map view ts ≡ map tree (take i xs) → view t ≡ tree x → map view (ts ++ t ∷ []) ≡ map tree (take (i + 1) xs)
trees_next {A} {B} view tree xs i x ts t inside is before this =
    map-append view ts (t ∷ [])
    ∙ ap (λ (ys : List B). ys ++ view t ∷ []) before
    ∙ ap (λ (y : B). map tree (take i xs) ++ y ∷ []) this
    ∙ sym (map-append tree (take i xs) (x ∷ []))
    ∙ ap (map tree) (sym (take_next xs i x inside is))

returns_append : {A : Type 0} (k : Kind A) (xs : List A) (x : A) → ReturnsEach k xs → Returns k x → ReturnsEach k (xs ++ x ∷ [])
returns_append k [] x each this = (this, tt)
returns_append k (y ∷ xs) x each this = (each.0, returns_append k xs x each.1 this)

pub returns_next : {A : Type 0} (k : Kind A) (xs : List A) (i : ℕ) (x : A) → i < length xs → x ≡ get_or xs i x
    → ReturnsEach k (take i xs) → Returns k x → ReturnsEach k (take (i + 1) xs)
returns_next k xs i x inside is each this =
    subst (ReturnsEach k) (sym (take_next xs i x inside is)) (returns_append k (take i xs) x each this)
