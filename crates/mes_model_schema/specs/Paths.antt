-- Paths into a JSON value, printed as `a.b[0].c`, or `.` for the root.
use Rattle.std.specs.Prelude.{ℕ, ◌<◌, ◌≤◌, ◌^◌, List, [], ◌∷◌, ◌++◌, length, All, codes, decimal}
use Rattle.std.specs.List.{flat_map}
use Rattle.mes_model_schema.specs.declared.limits.TheConstants.{MAX_PATH_NAME, MAX_PATH_STEPS}

-- A step: to a member by its name, or to an element by its index.
pub data Place : Type 0 where
  name : List ℕ → Place
  index : ℕ → Place

-- a name has 1 to 31 bytes, and an index is less than 2^64
abbrev pub IsPlace : Place → Type 0
IsPlace (name n) = (1 ≤ length n) × (length n ≤ MAX_PATH_NAME)
IsPlace (index i) = i < 2 ^ 64

-- A path has at most 16 steps.
pub record IsPath (at : List Place) : Type 0 where
  pub few : length at ≤ MAX_PATH_STEPS
  pub each : All IsPlace at

-- the text of a step that is not the first
abbrev pub step_text : Place → List ℕ
step_text (name n) = codes "." ++ n
step_text (index i) = codes "[" ++ decimal i ++ codes "]"

-- the text of the first step
abbrev pub first_text : Place → List ℕ
first_text (name n) = n
first_text (index i) = step_text (index i)

abbrev pub path_text : List Place → List ℕ
path_text [] = codes "."
path_text (p ∷ ps) = first_text p ++ flat_map step_text ps
