-- The tree that a `Json` value represents, one level of nesting at a time.
use Rattle.std.proofs.Common.{◌≡◌, ℕ, Bool, List, Vec, Global, ap, ◌∙◌, rules}
use Rattle.mes_json.specs.Tree.{Tree}
use Rattle.mes_json.specs.Tree.Tree.{null, boolean, number, string, array, object}
use Rattle.mes_json.specs.View.{view, items_view, members_view}
use Rattle.mes_json.specs.declared.value.Json.{Json, the_lemmas}
use Rattle.mes_json.specs.declared.value.Json.TheVariants.{Null, Bool as BoolOf, Num, Text, List as ListOf, Map}

abbrev pub member_view : List ℕ × Json → List ℕ × Tree
member_view m = (m.0, view m.1)

pub view-List : (ts : Vec Json Global) → view (ListOf ts) ≡ array (items_view ts.items)
view-List ts = search (rules, the_lemmas)

pub view-Map : (ms : Vec (List ℕ × Json) Global) → view (Map ms) ≡ object (members_view ms.items)
view-Map ms = search (rules, the_lemmas)

pub is_array : (json : Json) (ts : Vec Json Global) → json ≡ ListOf ts → view json ≡ array (items_view ts.items)
is_array json ts is = ap view is ∙ view-List ts

pub is_object : (json : Json) (ms : Vec (List ℕ × Json) Global) → json ≡ Map ms → view json ≡ object (members_view ms.items)
is_object json ms is = ap view is ∙ view-Map ms

view-Null : view Null ≡ null
view-Null = search (rules, the_lemmas)

view-Bool : (b : Bool) → view (BoolOf b) ≡ boolean b
view-Bool b = search (rules, the_lemmas)

view-Num : (n : List ℕ) → view (Num n) ≡ number n
view-Num n = search (rules, the_lemmas)

view-Text : (s : List ℕ) → view (Text s) ≡ string s
view-Text s = search (rules, the_lemmas)

pub is_null : (json : Json) → json ≡ Null → view json ≡ null
is_null json is = ap view is ∙ view-Null

pub is_boolean : (json : Json) (b : Bool) → json ≡ BoolOf b → view json ≡ boolean b
is_boolean json b is = ap view is ∙ view-Bool b

pub is_number : (json : Json) (n : List ℕ) → json ≡ Num n → view json ≡ number n
is_number json n is = ap view is ∙ view-Num n

pub is_string : (json : Json) (s : List ℕ) → json ≡ Text s → view json ≡ string s
is_string json s is = ap view is ∙ view-Text s
