-- Lemmas about identifiers that are added to a list: duplicates, and tasks that are new.
use Rattle.std.proofs.Common.{◌≡◌, ℕ, Bool, true, false, ◌||◌, if◌then◌else◌, List, [], ◌∷◌, ◌++◌, length, refl, sym, ap, ◌∙◌, append_assoc, arith}
use Rattle.std.specs.List.{list_any}
use Rattle.std.specs.Str.{bytes_eq}
use Rattle.std.proofs.lemmas.List.Folds.{list_any-append}
use Rattle.std.proofs.lemmas.Bool.{or_from, or_parts}
use Rattle.std.proofs.lemmas.Slice.Eq.{bytes_eq-Decides}
use Rattle.std.proofs.lemmas.List.{append-nil}
use Rattle.indexmap.specs.IndexSet.{insert_key, insert_all}
use Rattle.mes_model.specs.Id.{Id}
use Rattle.mes_model.specs.TaskInfo.{TaskInfo}
use Rattle.mes_model.specs.Offer.{Offer}
use Rattle.mes_session_state.specs.Refusals.{is_among, ids_of}
use Rattle.mes_double_master_state.specs.Ids.{same_id, new_tasks, offer_ids, is_duplicate}

pub other_way : (a b : List ℕ) → bytes_eq a b ≡ false → bytes_eq b a ≡ false
other_way a b e = by (bytes_eq b a) refl
  where
    by : (c : Bool) → bytes_eq b a ≡ c → bytes_eq b a ≡ false
    by false f = f
    by true f = (let g : bytes_eq a b ≡ true = (bytes_eq-Decides a b).1 (sym ((bytes_eq-Decides b a).0 f)) in absurd (cc))

pub comes_more : (ks : List Id) (d : Id) (ds : List Id) → is_duplicate ks ds ≡ false → is_among d ds ≡ false → is_duplicate (ks ++ d ∷ []) ds ≡ false
comes_more ks d [] none apart = refl
comes_more ks d (x ∷ xs) none apart =
    let both : ((is_among x ks || is_among x xs) ≡ false) × (is_duplicate ks xs ≡ false) = or_parts _ _ none in
    let first : (is_among x ks ≡ false) × (is_among x xs ≡ false) = or_parts _ _ both.0 in
    let far : (bytes_eq d.value x.value ≡ false) × (is_among d xs ≡ false) = or_parts _ _ apart in
    let here : is_among x (ks ++ d ∷ []) ≡ false =
    list_any-append (same_id x) ks (d ∷ []) ∙ or_from _ _ first.0 (or_from _ _ (other_way d.value x.value far.0) refl) in
    or_from _ _ (or_from _ _ here first.1) (comes_more ks d xs both.1 far.1)

pub insert_new : (ks ds : List Id) → is_duplicate ks ds ≡ false → insert_all same_id ks ds ≡ ks ++ ds
insert_new ks [] none = sym (append-nil ks)
insert_new ks (d ∷ ds) none =
    let both : ((is_among d ks || is_among d ds) ≡ false) × (is_duplicate ks ds ≡ false) = or_parts _ _ none in
    let first : (is_among d ks ≡ false) × (is_among d ds ≡ false) = or_parts _ _ both.0 in
    let added : insert_key same_id ks d ≡ ks ++ d ∷ [] = ap (λ (b : Bool). if b then ks else ks ++ d ∷ []) first.0 in
    ap (λ (l : List Id). insert_all same_id l ds) added ∙ insert_new (ks ++ d ∷ []) ds (comes_more ks d ds both.1 first.1) ∙ append_assoc ks (d ∷ []) ds

pub insert_tasks : (ks : List Id) (ts : List TaskInfo) → insert_all same_id ks (ids_of ts) ≡ ks ++ ids_of (new_tasks ks ts)
insert_tasks ks [] = sym (append-nil ks)
insert_tasks ks (t ∷ ts) = by (is_among t.task_id ks) refl (λ known. insert_tasks known ts)
  where
    added : (b : Bool) → is_among t.task_id ks ≡ b → insert_key same_id ks t.task_id ≡ (if b then ks else ks ++ t.task_id ∷ [])
    added b e = ap (λ (b : Bool). if b then ks else ks ++ t.task_id ∷ []) e

    news : (b : Bool) → is_among t.task_id ks ≡ b → new_tasks ks (t ∷ ts) ≡ (if b then new_tasks ks ts else t ∷ new_tasks (ks ++ t.task_id ∷ []) ts)
    news b e = ap (λ (b : Bool). if b then new_tasks ks ts else t ∷ new_tasks (ks ++ t.task_id ∷ []) ts) e

    by : (b : Bool) → is_among t.task_id ks ≡ b → ((known : List Id) → insert_all same_id known (ids_of ts) ≡ known ++ ids_of (new_tasks known ts))
        → insert_all same_id ks (ids_of (t ∷ ts)) ≡ ks ++ ids_of (new_tasks ks (t ∷ ts))
    by true e rest =
        ap (λ (l : List Id). insert_all same_id l (ids_of ts)) (added true e) ∙ rest ks ∙ sym (ap (λ (l : List TaskInfo). ks ++ ids_of l) (news true e))
    by false e rest =
        ap (λ (l : List Id). insert_all same_id l (ids_of ts)) (added false e)
        ∙ rest (ks ++ t.task_id ∷ [])
        ∙ append_assoc ks (t.task_id ∷ []) _
        ∙ sym (ap (λ (l : List TaskInfo). ks ++ ids_of l) (news false e))

pub among_offers : (d : Id) (os : List Offer) → list_any (λ (o : Offer). same_id d o.id) os ≡ is_among d (offer_ids os)
among_offers d [] = refl
among_offers d (o ∷ os) = ap (λ (b : Bool). same_id d o.id || b) (among_offers d os)

pub none_come : (ks : List Id) (os : List Offer) → length os ≡ 0 → is_duplicate ks (offer_ids os) ≡ false
none_come ks [] e = refl
none_come ks (o ∷ os) e = absurd (omega arith)
