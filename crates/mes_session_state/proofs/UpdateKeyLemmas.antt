-- Inserting a key into the set of keys gives the list that `with_key` gives.
use Rattle.std.proofs.Common.{◌≡◌, Bool, true, false, if◌then◌else◌, ◌||◌, List, [], ◌∷◌, ◌++◌, refl, sym, ◌∙◌, ap}
use Rattle.std.specs.List.{list_any}
use Rattle.std.specs.Cmp.Lexicographic.{bytes_decides}
use Rattle.indexmap.specs.IndexSet.{insert_key}
use Rattle.mes_model.specs.OwedKey.{OwedKey}
use Rattle.mes_session_fit.proofs.FitsLemmas.{and-both}
use Rattle.mes_session_state.specs.Held.{same_key, with_key}

same-key : (k l : OwedKey) → same_key k l ≡ true → k ≡ l
same-key k l h =
    let first = and-both _ _ h in
    let second = and-both _ _ first.1 in
    let agent = (bytes_decides k.agent.value l.agent.value).0 first.0 in
    let task = (bytes_decides k.task.value l.task.value).0 second.0 in
    let uuid = (bytes_decides k.uuid l.uuid).0 second.1 in
    λ j. record { agent = record { value = agent j }; task = record { value = task j }; uuid = uuid j }

following : (l k : OwedKey) (ls : List OwedKey) (c : Bool) → (if c then (l ∷ ls) else (l ∷ (ls ++ k ∷ []))) ≡ l ∷ (if c then ls else (ls ++ k ∷ []))
following l k ls true = refl
following l k ls false = refl

pub put_key : (k : OwedKey) (ks : List OwedKey) → insert_key same_key ks k ≡ with_key ks k
put_key k [] = refl
put_key k (l ∷ ls) = by (same_key k l) refl (put_key k ls)
  where
    by : (b : Bool) → same_key k l ≡ b → insert_key same_key ls k ≡ with_key ls k
        → (if (b || list_any (same_key k) ls) then (l ∷ ls) else (l ∷ (ls ++ k ∷ []))) ≡ (if b then (k ∷ ls) else (l ∷ with_key ls k))
    by true t rest = ap (λ (x : OwedKey). x ∷ ls) (sym (same-key k l t))
    by false t rest = following l k ls (list_any (same_key k) ls) ∙ ap (λ (xs : List OwedKey). l ∷ xs) rest
