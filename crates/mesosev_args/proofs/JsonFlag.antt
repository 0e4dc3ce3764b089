-- The flag `--json` in clap's model, after any other arguments.
use Rattle.std.proofs.Common.{◌≡◌, ◌++◌, append-nil, List, [], ◌∷◌, Some, Bool, true, false, refl, sym, subst}
use Rattle.std.specs.Prelude.{codes}
use Rattle.clap.specs.Faults.{use_fault}
use Rattle.clap.specs.Words.{Row, Rule, Text}
use Rattle.clap.specs.Simple.{Shape, filled}
use Rattle.clap.specs.Walk.{arg_by_long, used}
use Rattle.mesosev_args.specs.CommandLine.{json_rule}
use Rattle.mesosev_args.specs.NamedOptions.{SayFlag}
use Rattle.mesosev_args.proofs.Walks.{IsFlag, Reaches, reaches_flag}

abbrev pub json_words : Bool → List Text
json_words false = []
json_words true = codes "--json" ∷ []

-- the rows of the matches after the flag
abbrev pub rows_json : Bool → List Row → List Row
rows_json false rows = rows
rows_json true rows = used (filled json_rule) [] rows

pub json_said : (json : Bool) (words : List Text) → SayFlag (codes "--json") words json → words ≡ json_words json
json_said false words is = is
json_said true words is = is

pub json_is : (c : List Rule) → arg_by_long c (codes "json") ≡ Some (filled json_rule) → IsFlag c (filled json_rule) (codes "--json") (codes "json")
json_is c by_long = record { dashes = refl; long = refl; by_long = by_long; takes = refl }

pub reaches_json : (s : Shape) → IsFlag s.rules (filled json_rule) (codes "--json") (codes "json") → (words : List Text) (rows : List Row) (json : Bool) → Reaches s words rows
    → use_fault s.args_override_self (filled json_rule) [] rows ≡ [] → Reaches s (words ++ json_words json) (rows_json json rows)
reaches_json s is words rows false reaches usable = subst (λ (w : List Text). Reaches s w rows) (sym (append-nil words)) reaches
reaches_json s is words rows true reaches usable = reaches_flag s (filled json_rule) (codes "--json") (codes "json") is words rows reaches usable
