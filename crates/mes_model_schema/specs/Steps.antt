-- The member or element (`Place`) that a step of a path leads to.
use Rattle.mes_model_schema.specs.Paths.{Place}
use Rattle.mes_model_schema.specs.Paths.Place.{name, index}
use Rattle.mes_model_schema.specs.declared.path.Step.{Step}
use Rattle.mes_model_schema.specs.declared.path.Step.TheVariants.{Name, Index}

abbrev pub place_of : Step → Place
place_of (Name n) = name n.now
place_of (Index i) = index i
