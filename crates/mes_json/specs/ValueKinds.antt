-- The kind of a tree.
use Rattle.mes_json.specs.Tree.{Tree}
use Rattle.mes_json.specs.Tree.Tree.{null, boolean, number, string, array, object}
use Rattle.mes_json.specs.declared.value_kind.ValueKind.{ValueKind}
use Rattle.mes_json.specs.declared.value_kind.ValueKind.TheVariants.{Null, Bool, Number, Text, List, Map}

abbrev pub kind_of : Tree → ValueKind
kind_of null = Null
kind_of (boolean x) = Bool
kind_of (number n) = Number
kind_of (string s) = Text
kind_of (array ts) = List
kind_of (object ms) = Map
