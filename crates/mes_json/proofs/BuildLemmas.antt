-- The state of a tree in construction after one more item, member or node.
use Rattle.std.proofs.Common.{◌≡◌, ℕ, ◌+◌, ◌<◌, List, [], ◌∷◌, ◌++◌, length, take, get_or, map, reverse, Option, Some, None, Result, Ok, Err, OnOk, Vec, Global, refl, ap, sym, ◌∙◌, add-one, take-suc}
use Rattle.std.proofs.lemmas.List.{map-append, reverse-append}
use Rattle.mes_json.specs.Tree.{Items, Members}
use Rattle.mes_json.specs.Tree.Tree.{array, object}
use Rattle.mes_json.specs.Tree.Items.{item}
use Rattle.mes_json.specs.Tree.Members.{member}
use Rattle.mes_json.specs.Machine.{Frame, ReaderState, State, with_item, with_member, start}
use Rattle.mes_json.specs.Machine.ReaderState.{value, name, named, after}
use Rattle.mes_json.specs.Machine.Frame.{frame, array_frame}
use Rattle.mes_json.specs.Machine.State.{state}
use Rattle.mes_json.specs.Tape.{apply, spelled, value_due, name_due, valued, in_object, ended}
use Rattle.mes_json.specs.View.{view, items_view, members_view}
use Rattle.mes_json.specs.Build.{frame_view, frames_view, last_of, items_before, members_before, array_state, object_state, member_state, inner_view, building_view, Opens}
use Rattle.mes_json.specs.declared.tape.Node.{Node}
use Rattle.mes_json.specs.declared.value.Json.{Json}
use Rattle.mes_json.specs.declared.value.Json.TheVariants.{List as list, Map}
use Rattle.mes_json.specs.declared.tree_builder.Outer.{Outer}
use Rattle.mes_json.specs.declared.tree_builder.Outer.TheVariants as outer
use Rattle.mes_json.specs.declared.tree_builder.Inner.{Inner}
use Rattle.mes_json.specs.declared.tree_builder.Inner.TheVariants.{Object, Array}
use Rattle.mes_json.specs.declared.tree_builder.TreeBuilder.{TreeBuilder}
use Rattle.mes_json.proofs.TapeLemmas.{spelled_last}
use Rattle.mes_json.proofs.ViewLemmas.{view-List, view-Map}

frames_last : (os : List Outer) (o : Outer) → frames_view (os ++ o ∷ []) ≡ frame_view o ∷ frames_view os
frames_last os o = ap (λ (fs : List Frame). reverse fs) (map-append frame_view os (o ∷ [])) ∙ reverse-append (map frame_view os) (frame_view o ∷ [])

last_is : {A : Type 0} (x : A) (xs : List A) (last : A) → last_of x (xs ++ last ∷ []) ≡ last
last_is x [] last = refl
last_is x (y ∷ ys) last = last_is y ys last

before_item : (x : Json) (xs : List Json) (last : Json) → items_before x (xs ++ last ∷ []) ≡ items_view (x ∷ xs)
before_item x [] last = refl
before_item x (y ∷ ys) last = ap (item (view x)) (before_item y ys last)

before_member : (x : List ℕ × Json) (xs : List (List ℕ × Json)) (last : List ℕ × Json) → members_before x (xs ++ last ∷ []) ≡ members_view (x ∷ xs)
before_member x [] last = refl
before_member x (y ∷ ys) last = ap (member x.0 (view x.1)) (before_member y ys last)

all_items : (x : Json) (xs : List Json) → with_item (items_before x xs) (view (last_of x xs)) ≡ items_view (x ∷ xs)
all_items x [] = refl
all_items x (y ∷ ys) = ap (item (view x)) (all_items y ys)

all_members : (x : List ℕ × Json) (xs : List (List ℕ × Json))
    → with_member (members_before x xs) (last_of x xs).0 (view (last_of x xs).1) ≡ members_view (x ∷ xs)
all_members x [] = refl
all_members x (y ∷ ys) = ap (member x.0 (view x.1)) (all_members y ys)

array_last : (fs : List Frame) (ts grown : List Json) (json : Json) → grown ≡ ts ++ json ∷ []
    → array_state fs grown ≡ state (array_frame (items_view ts) ∷ fs) (after (view json))
array_last fs ts grown json is = ap (array_state fs) is ∙ by ts
  where
    by : (ts : List Json) → array_state fs (ts ++ json ∷ []) ≡ state (array_frame (items_view ts) ∷ fs) (after (view json))
    by [] = refl
    by (x ∷ xs) = ap (λ (is : Items). state (array_frame is ∷ fs) (after (view (last_of x (xs ++ json ∷ []))))) (before_item x xs json)
        ∙ ap (λ (t : Json). state (array_frame (items_view (x ∷ xs)) ∷ fs) (after (view t))) (last_is x xs json)

array_due : (fs : List Frame) (ts : List Json) → value_due (array_state fs ts) ≡ state (array_frame (items_view ts) ∷ fs) value
array_due fs [] = refl
array_due fs (x ∷ xs) = ap (λ (is : Items). state (array_frame is ∷ fs) value) (all_items x xs)

array_ended : (fs : List Frame) (ts : List Json) → ended (array_state fs ts) ≡ state fs (after (array (items_view ts)))
array_ended fs [] = refl
array_ended fs (x ∷ xs) = ap (λ (is : Items). state fs (after (array is))) (all_items x xs)

object_last : (fs : List Frame) (ms grown : List (List ℕ × Json)) (k : List ℕ) (json : Json) → grown ≡ ms ++ (k, json) ∷ []
    → object_state fs grown ≡ state (frame (members_view ms) k ∷ fs) (after (view json))
object_last fs ms grown k json is = ap (object_state fs) is ∙ by ms
  where
    by : (ms : List (List ℕ × Json)) → object_state fs (ms ++ (k, json) ∷ []) ≡ state (frame (members_view ms) k ∷ fs) (after (view json))
    by [] = refl
    by (x ∷ xs) =
        ap (λ (is : Members). state (frame is (last_of x (xs ++ (k, json) ∷ [])).0 ∷ fs) (after (view (last_of x (xs ++ (k, json) ∷ [])).1))) (before_member x xs (k, json))
        ∙ ap (λ (m : List ℕ × Json). state (frame (members_view (x ∷ xs)) m.0 ∷ fs) (after (view m.1))) (last_is x xs (k, json))

object_due : (fs : List Frame) (ms : List (List ℕ × Json)) → name_due (object_state fs ms) ≡ state fs (name (members_view ms))
object_due fs [] = refl
object_due fs (x ∷ xs) = ap (λ (is : Members). state fs (name is)) (all_members x xs)

object_ended : (fs : List Frame) (ms : List (List ℕ × Json)) → ended (object_state fs ms) ≡ state fs (after (object (members_view ms)))
object_ended fs [] = refl
object_ended fs (x ∷ xs) = ap (λ (is : Members). state fs (after (object is))) (all_members x xs)

pub item_joins : (b : TreeBuilder) (ts grown : Vec Json Global) (json : Json) → b.inner ≡ Array ts → grown.items ≡ ts.items ++ json ∷ []
    → array_state (frames_view b.outer.items) grown.items ≡ valued (after (view json)) (value_due (building_view b))
item_joins b ts grown json was is =
    array_last (frames_view b.outer.items) ts.items grown.items json is ∙ ap (valued (after (view json))) (sym (array_due (frames_view b.outer.items) ts.items))
    ∙ ap (λ (i : Inner). valued (after (view json)) (value_due (inner_view (frames_view b.outer.items) i))) (sym was)

pub member_joins : (b : TreeBuilder) (ms grown : Vec (List ℕ × Json) Global) (k : List ℕ) (due : Option (List ℕ)) (json : Json) → b.inner ≡ Object ms (Some k) → due ≡ None
    → grown.items ≡ ms.items ++ (k, json) ∷ [] → member_state (frames_view b.outer.items) grown.items due ≡ valued (after (view json)) (value_due (building_view b))
member_joins b ms grown k due json was none is =
    ap (member_state (frames_view b.outer.items) grown.items) none ∙ object_last (frames_view b.outer.items) ms.items grown.items k json is
    ∙ ap (λ (i : Inner). valued (after (view json)) (value_due (inner_view (frames_view b.outer.items) i))) (sym was)

pub name_follows : (b : TreeBuilder) (ms : Vec (List ℕ × Json) Global) (k : List ℕ) → b.inner ≡ Object ms None
    → state (frames_view b.outer.items) (named (members_view ms.items) k) ≡ in_object (λ ms. named ms k) (name_due (building_view b))
name_follows b ms k was =
    ap (in_object (λ ms. named ms k)) (sym (object_due (frames_view b.outer.items) ms.items))
    ∙ ap (λ (i : Inner). in_object (λ ms. named ms k) (name_due (inner_view (frames_view b.outer.items) i))) (sym was)

pub array_around : (b : TreeBuilder) (os : List Outer) (ts : Vec Json Global) (opened placed : Inner) (a : ReaderState) → b.inner ≡ Array ts → os ≡ b.outer.items ++ outer.Array ts ∷ []
    → placed ≡ opened → Opens opened a → inner_view (frames_view os) placed ≡ valued a (value_due (building_view b))
array_around b os ts opened placed a was is put opens =
    ap (inner_view (frames_view os)) put ∙ opens (frames_view os)
    ∙ ap (λ (xs : List Outer). state (frames_view xs) a) is ∙ ap (λ (fs : List Frame). state fs a) (frames_last b.outer.items (outer.Array ts))
    ∙ ap (valued a) (sym (array_due (frames_view b.outer.items) ts.items))
    ∙ ap (λ (i : Inner). valued a (value_due (inner_view (frames_view b.outer.items) i))) (sym was)

pub array_ends : (b : TreeBuilder) (ts exact : Vec Json Global) → b.inner ≡ Array ts → exact.items ≡ ts.items
    → state (frames_view b.outer.items) (after (view (list exact))) ≡ ended (building_view b)
array_ends b ts exact was same =
    ap (λ t. state (frames_view b.outer.items) (after t)) (view-List exact)
    ∙ ap (λ (xs : List Json). state (frames_view b.outer.items) (after (array (items_view xs)))) same
    ∙ sym (array_ended (frames_view b.outer.items) ts.items) ∙ ap (λ (i : Inner). ended (inner_view (frames_view b.outer.items) i)) (sym was)

pub object_ends : (b : TreeBuilder) (ms exact : Vec (List ℕ × Json) Global) → b.inner ≡ Object ms None → exact.items ≡ ms.items
    → state (frames_view b.outer.items) (after (view (Map exact))) ≡ ended (building_view b)
object_ends b ms exact was same =
    ap (λ t. state (frames_view b.outer.items) (after t)) (view-Map exact)
    ∙ ap (λ (xs : List (List ℕ × Json)). state (frames_view b.outer.items) (after (object (members_view xs)))) same
    ∙ sym (object_ended (frames_view b.outer.items) ms.items) ∙ ap (λ (i : Inner). ended (inner_view (frames_view b.outer.items) i)) (sym was)

pub array_again : (os rest : List Outer) (ts grown : Vec Json Global) (json : Json) → os ≡ rest ++ outer.Array ts ∷ [] → grown.items ≡ ts.items ++ json ∷ []
    → array_state (frames_view rest) grown.items ≡ state (frames_view os) (after (view json))
array_again os rest ts grown json was is =
    array_last (frames_view rest) ts.items grown.items json is ∙ ap (λ (fs : List Frame). state fs (after (view json))) (sym (frames_last rest (outer.Array ts)))
    ∙ ap (λ (xs : List Outer). state (frames_view xs) (after (view json))) (sym was)

pub object_again : (os rest : List Outer) (ms grown : Vec (List ℕ × Json) Global) (k : List ℕ) (json : Json) → os ≡ rest ++ outer.Object ms k ∷ []
    → grown.items ≡ ms.items ++ (k, json) ∷ [] → object_state (frames_view rest) grown.items ≡ state (frames_view os) (after (view json))
object_again os rest ms grown k json was is =
    object_last (frames_view rest) ms.items grown.items k json is ∙ ap (λ (fs : List Frame). state fs (after (view json))) (sym (frames_last rest (outer.Object ms k)))
    ∙ ap (λ (xs : List Outer). state (frames_view xs) (after (view json))) (sym was)

pub on_ok : {A E : Type 0} (r : Result A E) (P Q : Type 0) → (P → Q) → OnOk r P → OnOk r Q
on_ok (Ok u) P Q f h = f h
on_ok (Err e) P Q f h = tt

pub node_taken : (texts : List ℕ) (xs : List Node) (x : Node) (n : ℕ) (before s : State) → n < length xs → before ≡ spelled texts (take n xs)
    → s ≡ apply texts (get_or xs n x) before → s ≡ spelled texts (take (n + 1) xs)
node_taken texts xs x n before s inside was is =
    is ∙ ap (λ (t : State). apply texts (get_or xs n x) t) was
    ∙ sym (spelled_last texts start (take n xs) (get_or xs n x)) ∙ ap (λ (ys : List Node). spelled texts ys) (sym (take-suc xs n x inside))
    ∙ ap (λ (m : ℕ). spelled texts (take m xs)) (sym (add-one n))
