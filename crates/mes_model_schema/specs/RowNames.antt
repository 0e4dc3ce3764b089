-- The names of the members that the table of a message describes.
use Rattle.std.specs.Prelude.{ℕ, ◌+◌, Bool, true, leb, ◌&&◌, List, [], ◌∷◌, length, bytes_eq, slice_index_or}
use Rattle.mes_model_schema.specs.NameLaws.{distinct}
use Rattle.mes_model_schema.specs.declared.limits.TheConstants.{MAX_PATH_NAME}

-- each name has 1 to 31 bytes
abbrev pub are_short : List (List ℕ) → Bool
are_short [] = true
are_short (n ∷ ns) = (leb 1 (length n) && leb (length n) MAX_PATH_NAME) && are_short ns

-- each name has 1 to 31 bytes, and no name occurs twice
abbrev pub are_names : List (List ℕ) → Bool
are_names ns = are_short ns && distinct ns

-- the name at an index of the list
abbrev pub name_at : List (List ℕ) → ℕ → List ℕ
name_at ns i = slice_index_or ns i []

-- the first list of names is in the second list, from index i on
abbrev pub stand_at : ℕ → List (List ℕ) → List (List ℕ) → Bool
stand_at i [] ns = true
stand_at i (m ∷ ms) ns = bytes_eq m (name_at ns i) && stand_at (i + 1) ms ns
