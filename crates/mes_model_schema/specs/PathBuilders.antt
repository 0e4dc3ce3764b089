-- The steps of a path builder: the steps of the path that it borrows, and the last step.
use Rattle.std.specs.Prelude.{◌<◌, List, [], ◌∷◌, ◌++◌, length}
use Rattle.mes_model_schema.specs.Paths.{Place, IsPlace}
use Rattle.mes_model_schema.specs.Steps.{place_of}
use Rattle.mes_model_schema.specs.declared.path_builder.Link.{Link}
use Rattle.mes_model_schema.specs.declared.path_builder.Link.TheVariants.{Start, Along, Below}
use Rattle.mes_model_schema.specs.declared.limits.TheConstants.{MAX_PATH_STEPS}

abbrev pub places : Link → List Place
places Start = []
places (Along path) = path.now
places (Below above step) = above.now ++ place_of step ∷ []

-- the last step is a valid place, and the path before it has fewer than 16 steps
abbrev pub HasRoom : Link → Type 0
HasRoom Start = Unit {0}
HasRoom (Along path) = Unit {0}
HasRoom (Below above step) = (length above.now < MAX_PATH_STEPS) × IsPlace (place_of step)
