-- A list of items with unique keys: adding an item replaces the item of the same key in its place,
-- or appends.
use Rattle.std.specs.Prelude.{Bool, if◌then◌else◌, List, [], ◌∷◌}

module _ {K X : Type 0} (same : K → K → Bool) (key : X → K) where
  abbrev pub put : List X → X → List X
  put [] x = x ∷ []
  put (y ∷ ys) x = if same (key x) (key y) then x ∷ ys else y ∷ put ys x
