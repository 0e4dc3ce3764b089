-- The tree that a `Json` value represents.
use Rattle.std.specs.Prelude.{ℕ, List, [], ◌∷◌, map}
use Rattle.mes_json.specs.Tree.{Tree, Items, Members}
use Rattle.mes_json.specs.Tree.Tree.{null, boolean, number, string, array, object}
use Rattle.mes_json.specs.Tree.Items.{no_items, item}
use Rattle.mes_json.specs.Tree.Members.{no_members, member}
use Rattle.mes_json.specs.declared.value.Json.{Json, fold-Json}
use Rattle.mes_json.specs.declared.value.Json.TheOpen.{Json-F}

-- the trees as items, in the same order
abbrev pub items_of : List Tree → Items
items_of [] = no_items
items_of (t ∷ ts) = item t (items_of ts)

-- the names and trees as members, in the same order
abbrev pub members_of : List (List ℕ × Tree) → Members
members_of [] = no_members
members_of (m ∷ ms) = member m.0 m.1 (members_of ms)

-- the tree of one level of a value, in which the values inside are replaced by their trees
abbrev pub view_step : Json-F Tree → Tree
view_step Json-F.Null = null
view_step (Json-F.Bool x) = boolean x
view_step (Json-F.Num n) = number n
view_step (Json-F.Text s) = string s
view_step (Json-F.List v) = array (items_of v.items)
view_step (Json-F.Map v) = object (members_of v.items)

abbrev pub view : Json → Tree
view = fold-Json Tree view_step

abbrev pub items_view : List Json → Items
items_view ts = items_of (map view ts)

abbrev pub members_view : List (List ℕ × Json) → Members
members_view ms = members_of (map (λ m. (m.0, view m.1)) ms)
