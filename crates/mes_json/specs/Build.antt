-- The state of `Machine` that a tree in construction represents. Cited by private clauses only.
use Rattle.std.specs.Prelude.{◌≡◌, List, [], ◌∷◌, ℕ, map, reverse, Option, Some, None}
use Rattle.mes_json.specs.Tree.{Items, Members}
use Rattle.mes_json.specs.Tree.Items.{no_items, item}
use Rattle.mes_json.specs.Tree.Members.{no_members, member}
use Rattle.mes_json.specs.Machine.{Frame, ReaderState, State}
use Rattle.mes_json.specs.Machine.Frame.{frame, array_frame}
use Rattle.mes_json.specs.Machine.ReaderState.{value, first_item, name, named, after}
use Rattle.mes_json.specs.Machine.State.{state}
use Rattle.mes_json.specs.View.{view, items_view, members_view}
use Rattle.mes_json.specs.declared.value.Json.{Json}
use Rattle.mes_json.specs.declared.tree_builder.Outer.{Outer}
use Rattle.mes_json.specs.declared.tree_builder.Outer.TheVariants as outer
use Rattle.mes_json.specs.declared.tree_builder.Inner.{Inner}
use Rattle.mes_json.specs.declared.tree_builder.Inner.TheVariants.{Nothing, Whole, Object, Array}
use Rattle.mes_json.specs.declared.tree_builder.TreeBuilder.{TreeBuilder}

abbrev pub frame_view : Outer → Frame
frame_view (outer.Object ms k) = frame (members_view ms.items) k
frame_view (outer.Array ts) = array_frame (items_view ts.items)

abbrev pub frames_view : List Outer → List Frame
frames_view os = reverse (map frame_view os)

-- the last element of the list x, y, .. (x and then the given values)
abbrev pub last_of : {A : Type 0} → A → List A → A
last_of x [] = x
last_of x (y ∷ ys) = last_of y ys

-- all elements of the list x, y, .. but the last one, as items
abbrev pub items_before : Json → List Json → Items
items_before x [] = no_items
items_before x (y ∷ ys) = item (view x) (items_before y ys)

abbrev pub members_before : List ℕ × Json → List (List ℕ × Json) → Members
members_before x [] = no_members
members_before x (y ∷ ys) = member x.0 (view x.1) (members_before y ys)

-- the state in an array with the given items: before the first item, or after the last one
abbrev pub array_state : List Frame → List Json → State
array_state fs [] = state fs first_item
array_state fs (x ∷ xs) = state (array_frame (items_before x xs) ∷ fs) (after (view (last_of x xs)))

-- the state in an object with the given members: before the first name, or after the last value
abbrev pub object_state : List Frame → List (List ℕ × Json) → State
object_state fs [] = state fs (name no_members)
object_state fs (x ∷ xs) = let last = last_of x xs in state (frame (members_before x xs) last.0 ∷ fs) (after (view last.1))

-- like `object_state`, but after the name of a next member, if that name has been added
abbrev pub member_state : List Frame → List (List ℕ × Json) → Option (List ℕ) → State
member_state fs ms None = object_state fs ms
member_state fs ms (Some k) = state fs (named (members_view ms) k)

-- the state in the innermost object or array; the frames are those around it
abbrev pub inner_view : List Frame → Inner → State
inner_view fs Nothing = state [] value
inner_view fs (Whole json) = state [] (after (view json))
inner_view fs (Object ms due) = member_state fs ms.items due
inner_view fs (Array ts) = array_state fs ts.items

abbrev pub building_view : TreeBuilder → State
building_view b = inner_view (frames_view b.outer.items) b.inner

-- the object or array i, just opened, is represented by the state a
abbrev pub Opens : Inner → ReaderState → Type 0
Opens i a = (fs : List Frame) → inner_view fs i ≡ state fs a
