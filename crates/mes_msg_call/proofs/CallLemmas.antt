-- Lemmas: members are appended one after another.
use Rattle.std.proofs.Common.{◌≡◌, List, [], ◌∷◌, ◌++◌, refl, subst}
use Rattle.std.proofs.lemmas.List.{append_assoc}
use Rattle.std.specs.Prelude.{Result, OnOk}

joined_lists : {A : Type 0} (old first second : List A) (t : A) (s x : List A) → first ≡ old ++ t ∷ [] → second ≡ first ++ s → second ++ x ≡ old ++ t ∷ (s ++ x)
joined_lists old first second t s x one two = rw (two, one, append_assoc (old ++ t ∷ []) s x, append_assoc old (t ∷ []) (s ++ x)) refl

pub put_last : {A T E : Type 0} (r : Result T E) (now old first second : List A) (t : A) (s x : List A)
    → first ≡ old ++ t ∷ [] → second ≡ first ++ s → OnOk r (now ≡ second ++ x) → OnOk r (now ≡ old ++ t ∷ (s ++ x))
put_last {A} r now old first second t s x one two on = subst (λ (ms : List A). OnOk r (now ≡ ms)) (joined_lists old first second t s x one two) on
