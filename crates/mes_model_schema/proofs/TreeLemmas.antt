-- Lemmas: the tree that a `Json` object, array or string represents.
use Rattle.std.proofs.Common.{◌≡◌, ℕ, List, Vec, Global, rules}
use Rattle.mes_json.specs.Tree.Tree.{string, array, object}
use Rattle.mes_json.specs.View.{view, members_of, items_view}
use Rattle.mes_json.specs.declared.value.Json.{Json, the_lemmas}
use Rattle.mes_json.specs.declared.value.Json.TheVariants.{Text, List as ListOf, Map}
use Rattle.mes_json.proofs.ViewLemmas.{view-List, view-Map}
use Rattle.mes_model_schema.specs.Written.{pairs_view}

pub view_map : (ms : Vec (List ℕ × Json) Global) → view (Map ms) ≡ object (members_of (pairs_view ms.items))
view_map ms = view-Map ms

pub view_list : (ts : Vec Json Global) → view (ListOf ts) ≡ array (items_view ts.items)
view_list ts = view-List ts

pub view_text : (s : List ℕ) → view (Text s) ≡ string s
view_text s = search (rules, the_lemmas)
