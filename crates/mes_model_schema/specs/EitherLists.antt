-- Lists read as an array, or as an object with the array as a member, and written as the object.
use Rattle.std.specs.Prelude.{◌⊎◌, ℕ, Bool, true, false, List, if◌then◌else◌}
use Rattle.mes_json.specs.Tree.{Tree}
use Rattle.mes_json.specs.Tree.Tree.{null, boolean, number, string, array, object}
use Rattle.mes_model_schema.specs.Kinds.{Kind}
use Rattle.mes_model_schema.specs.Lists.{list_of}
use Rattle.mes_model_schema.specs.Rows.{many, message}

abbrev pub is_array : Tree → Bool
is_array (array ts) = true
is_array null = false
is_array (boolean x) = false
is_array (number n) = false
is_array (string s) = false
is_array (object ms) = false

-- the kind of lists that are read as an array, or as an object with the array under this name
abbrev pub either_list : {V : Type 0} → List ℕ → Kind V → Kind (List V)
either_list n k = record {
  Reads = λ t vs. (message (many n k)).Reads t vs ⊎ (list_of k).Reads t vs;
  read = λ at t. if is_array t then (list_of k).read at t else (message (many n k)).read at t;
  tree = (message (many n k)).tree;
}
